use Rattle.std.proofs.Common.{ℕ, ◌+◌, ◌++◌, length, ap, ◌∙◌}
use Rattle.std.specs.Char.{is_ascii_digit}
use Rattle.std.proofs.lemmas.List.Folds.{list_all-append}
use Rattle.wk_text_rules.specs.Decimal.{digits_value}
use Rattle.wk_decimal.proofs.ZeroLemmas.{without_leading_zeros-parts, digits_value-without_leading_zeros, is_significant, written}
use Rattle.wk_decimal.proofs.numeral.significant.Goals as goal

pub returns-clause-value : goal.returns-clause-value
returns-clause-value c =
    let whole = c.args.whole.now in
    let fraction = c.args.fraction.now in
    let parts = without_leading_zeros-parts whole fraction _ _ c.without_leading_zeros-front.ensures c.counted_behind.ensures.none c.counted_behind.ensures.some in
    let value = ap digits_value parts ∙ digits_value-without_leading_zeros (whole ++ fraction) in
    ap (λ (v : ℕ). written c.args.minus v c.args.up (c.args.down + length fraction)) value

pub returns-clause-digits : goal.returns-clause-digits
returns-clause-digits c =
    let whole = c.args.whole.now in
    let fraction = c.args.fraction.now in
    let parts = without_leading_zeros-parts whole fraction _ _ c.without_leading_zeros-front.ensures c.counted_behind.ensures.none c.counted_behind.ensures.some in
    rw parts (is_significant (whole ++ fraction) (rw (list_all-append is_ascii_digit whole fraction, c.requires.whole, c.requires.fraction)))
