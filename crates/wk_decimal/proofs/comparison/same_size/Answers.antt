use Rattle.std.proofs.Common.{sym, ◌∙◌}
use Rattle.std.proofs.lemmas.Bool.{false≢true}
use Rattle.wk_decimal.specs.Numeral.{digits_of}
use Rattle.wk_decimal.proofs.DigitLemmas.{same_from_products, products_from_same}
use Rattle.wk_decimal.proofs.comparison.same_size.Goals as goal

pub returns-then-same_place : goal.returns-then-same_place
returns-then-same_place c =
    let a = digits_of c.args.a.now in
    let b = digits_of c.args.b.now in (
      λ h. products_from_same a b _ _ (c.same_place.ensures.0 c.if-same_place.true) (c.same_digits.ensures.0 h),
      λ v. c.same_digits.ensures.1 (same_from_products a b _ _ c.requires.a c.requires.b c.requires.a_nonzero c.requires.b_nonzero v).1,
    )

pub returns-else-same_place : goal.returns-else-same_place
returns-else-same_place c =
    let a = digits_of c.args.a.now in
    let b = digits_of c.args.b.now in (
      λ h. absurd (false≢true (sym c.if-same_place.false ∙ h)),
      λ v. c.same_place.ensures.1 (same_from_products a b _ _ c.requires.a c.requires.b c.requires.a_nonzero c.requires.b_nonzero v).0,
    )
