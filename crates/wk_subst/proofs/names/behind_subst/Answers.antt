use Rattle.std.proofs.Common.{List, ℕ, Some, length, take, codes, arith, ap, subst, ◌∙◌}
use Rattle.wk_subst.proofs.NameLaws.{SameLetters, name-stands, word-boundary}
use Rattle.wk_subst.proofs.names.behind_subst.Goals as goal

pub range_from-requires : goal.range_from-requires
range_from-requires c = λ positive.
    let same = subst (λ (t : List ℕ). SameLetters (codes "subst:") (take 6 t)) c.as_bytes-bytes.ensures.value (c.eq_ignore_ascii_case.ensures.test.0 c.if-eq_ignore_ascii_case.true) in
    word-boundary c.args.text.now c.utf8.text (omega (arith, c.if-bytes.false, ap length c.as_bytes-bytes.ensures.value)) same

pub returns-then-eq_ignore_ascii_case : goal.returns-then-eq_ignore_ascii_case
returns-then-eq_ignore_ascii_case c =
    let same = subst (λ (t : List ℕ). SameLetters (codes "subst:") (take 6 t)) c.as_bytes-bytes.ensures.value (c.eq_ignore_ascii_case.ensures.test.0 c.if-eq_ignore_ascii_case.true) in
    ap (λ (t : List ℕ). Some t) c.range_from.ensures.value ∙ name-stands (codes "subst:") c.args.text.now same
