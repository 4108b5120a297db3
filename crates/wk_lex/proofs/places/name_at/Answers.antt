use Rattle.wk_lex.proofs.NameLemmas.{name_at-ends, name_at-none, not-both}
use Rattle.wk_lex.proofs.places.name_at.Goals as goal

pub returns-then-eq_ignore_ascii_case : goal.returns-then-eq_ignore_ascii_case
returns-then-eq_ignore_ascii_case c =
    name_at-ends c.args.name.now c.args.text.now c.args.at c.requires.some c.if-rest-name.false c.requires.within
    (c.eq_ignore_ascii_case.ensures.test.0 c.if-eq_ignore_ascii_case.true)

pub returns-else-eq_ignore_ascii_case : goal.returns-else-eq_ignore_ascii_case
returns-else-eq_ignore_ascii_case c =
    name_at-none c.args.name.now c.args.text.now c.args.at c.requires.some
    (λ same. not-both c.eq_ignore_ascii_case.result (c.eq_ignore_ascii_case.ensures.test.1 same) c.if-eq_ignore_ascii_case.false)
