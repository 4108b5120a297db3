use Rattle.wk_lex.proofs.NameLemmas.{not-both}
use Rattle.wk_redirect.proofs.RedirectLaws.{name_stands, name_differs}
use Rattle.wk_redirect.proofs.redirect.behind_name.Goals as goal

pub returns-then-eq_ignore_ascii_case : goal.returns-then-eq_ignore_ascii_case
returns-then-eq_ignore_ascii_case c =
    name_stands c.args.name.now c.args.text.now c.requires c.if-text-name.false
    (c.eq_ignore_ascii_case.ensures.test.0 c.if-eq_ignore_ascii_case.true)

pub returns-else-eq_ignore_ascii_case : goal.returns-else-eq_ignore_ascii_case
returns-else-eq_ignore_ascii_case c =
    name_differs c.args.name.now c.args.text.now c.requires
    (λ same. not-both c.eq_ignore_ascii_case.result (c.eq_ignore_ascii_case.ensures.test.1 same) c.if-eq_ignore_ascii_case.false)
