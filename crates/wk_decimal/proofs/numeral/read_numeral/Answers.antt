use Rattle.std.proofs.Common.{sym, ap, ◌∙◌}
use Rattle.std.specs.Prelude.{Some}
use Rattle.std.specs.Option.{option_copied}
use Rattle.wk_decimal.proofs.ReadLemmas.{numeral_by_parts, mantissa_digits, power_bounded}
use Rattle.wk_decimal.proofs.numeral.read_numeral.Goals as goal

pub significant-requires : goal.significant-requires
significant-requires c =
    let whole = c.split_at_point.result.0.now in
    let fraction = option_copied c.split_at_point.result.1 in
    let digits = mantissa_digits whole fraction (sym c.is_mantissa.ensures ∙ c.if-not-is_mantissa.false) in
    record {
      whole = digits.0;
      fraction = rw c.or_nothing.ensures digits.1;
      down = power_bounded (option_copied c.split_at_letter.result.1) c.in-Some.up c.in-Some.down (sym c.power.ensures ∙ c.in-Some.is);
    }

pub returns-then-not-is_mantissa-clause-value : goal.returns-then-not-is_mantissa-clause-value
returns-then-not-is_mantissa-clause-value c =
    let parts = numeral_by_parts c.args.text.now _ _ _ _ _ _ c.split_at_letter.ensures.front c.split_at_letter.ensures.back c.split_sign-minus.ensures.minus c.split_sign-minus.ensures.rest c.split_at_point.ensures.front c.split_at_point.ensures.back in
    let none = sym c.is_mantissa.ensures ∙ c.if-not-is_mantissa.true in
    sym (rw none at parts)

pub returns-in_default-clause-value : goal.returns-in_default-clause-value
returns-in_default-clause-value c =
    let parts = numeral_by_parts c.args.text.now _ _ _ _ _ _ c.split_at_letter.ensures.front c.split_at_letter.ensures.back c.split_sign-minus.ensures.minus c.split_sign-minus.ensures.rest c.split_at_point.ensures.front c.split_at_point.ensures.back in
    let some = sym c.is_mantissa.ensures ∙ c.if-not-is_mantissa.false in
    let none = sym c.power.ensures ∙ c.in_default.is in
    sym (rw (some, none) at parts)

pub returns-clause-value : goal.returns-clause-value
returns-clause-value c =
    let parts = numeral_by_parts c.args.text.now _ _ _ _ _ _ c.split_at_letter.ensures.front c.split_at_letter.ensures.back c.split_sign-minus.ensures.minus c.split_sign-minus.ensures.rest c.split_at_point.ensures.front c.split_at_point.ensures.back in
    let some = sym c.is_mantissa.ensures ∙ c.if-not-is_mantissa.false in
    let power = sym c.power.ensures ∙ c.in-Some.is in
    ap Some (rw c.or_nothing.ensures at c.significant.ensures.value) ∙ sym (rw (some, power) at parts)
