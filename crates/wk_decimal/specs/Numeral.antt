-- A numeral that was read: its significant digits in two parts, and its power of ten (own).
use Rattle.std.specs.Prelude.{ℕ, pos, neg_ℤ, List, ◌++◌, if◌then◌else◌}
use Rattle.wk_decimal.specs.declared.numeral.Numeral.{Numeral}
use Rattle.wk_text_rules.specs.Decimal.{digits_value}
use Rattle.wk_text_rules.specs.Numerals.{Decimal}

abbrev pub digits_of : Numeral → List ℕ
digits_of n = n.front.now ++ n.back.now

-- the decimal that the numeral writes
abbrev pub decimal_of : Numeral → Decimal
decimal_of n =
    let value = pos (digits_value (digits_of n)) in
    record { digits = (if n.minus then neg_ℤ value else value); up = n.up; down = n.down }
