-- Numerals, and when two texts are equal to `#ifeq` and `#switch` (MediaWiki's Help:Extension:ParserFunctions; which
-- texts are numerals, and that numerals are compared exactly, is own).
use Rattle.std.specs.Prelude.{ℕ, ◌+◌, ◌^◌, ℤ, pos, neg_ℤ, ◌*ℤ◌, ◌==◌, Bool, false, ◌&&◌, ◌||◌, nat_lt, nat_le, List, [], ◌∷◌, ◌++◌, length, bytes_eq, Option, Some, None, option_map, if◌then◌else◌}
use Rattle.std.specs.Char.{is_ascii_digit}
use Rattle.std.specs.List.{list_all, list_any, before_first, after_first}
use Rattle.std.specs.Ordering.{int_eq}
use Rattle.wk_text_rules.specs.Decimal.{digits_value}
use Rattle.wk_text_rules.specs.Marked.{MarkedByte, plain_text_of}

-- an exact decimal: the digits as a whole number, times ten to the power `up`, over ten to the power `down`
pub record Decimal : Type 0 where
  pub digits : ℤ
  pub up : ℕ
  pub down : ℕ

-- two decimals are one number: their fractions are equal crosswise
abbrev pub same_decimal : Decimal → Decimal → Bool
same_decimal a b = int_eq (a.digits *ℤ pos (10 ^ (a.up + b.down))) (b.digits *ℤ pos (10 ^ (b.up + a.down)))

-- ---- the form of a numeral

abbrev pub is_plus_or_minus : ℕ → Bool
is_plus_or_minus b = b == 43 || b == 45

abbrev pub is_point : ℕ → Bool
is_point b = b == 46

abbrev pub is_exponent_letter : ℕ → Bool
is_exponent_letter b = b == 101 || b == 69

-- one or more digits
abbrev pub is_digits : List ℕ → Bool
is_digits bytes = nat_lt 0 (length bytes) && list_all is_ascii_digit bytes

-- without one sign at the front, if there is one
abbrev pub without_sign : List ℕ → List ℕ
without_sign [] = []
without_sign (b ∷ bytes) = if is_plus_or_minus b then bytes else b ∷ bytes

abbrev pub has_minus : List ℕ → Bool
has_minus [] = false
has_minus (b ∷ bytes) = b == 45

-- what stands behind the first byte that passes the test, if one does
abbrev pub behind_first : (ℕ → Bool) → List ℕ → Option (List ℕ)
behind_first test bytes = if list_any test bytes then Some (after_first test bytes) else None

-- digits, with or without a point and digits; or a point and digits. So `1.` is none.
abbrev pub is_mantissa : List ℕ → Option (List ℕ) → Bool
is_mantissa whole None = is_digits whole
is_mantissa whole (Some fraction) = list_all is_ascii_digit whole && is_digits fraction

-- the greatest power of ten that an exponent may ask for, up or down
abbrev pub most_exponent : ℕ
most_exponent = 9999

-- an exponent: a sign, if there is one, and digits; it is up, or with a minus down
abbrev pub exponent_of : List ℕ → Option (ℕ × ℕ)
exponent_of bytes =
    let n = digits_value (without_sign bytes) in
    if is_digits (without_sign bytes) && nat_le n most_exponent
    then (if has_minus bytes then Some (0, n) else Some (n, 0))
    else None

-- what stands behind the letter, or no power where there is no letter
abbrev pub power_of : Option (List ℕ) → Option (ℕ × ℕ)
power_of None = Some (0, 0)
power_of (Some bytes) = exponent_of bytes

-- the decimal that a sign, a mantissa and an exponent write
abbrev pub decimal_by : Bool → List ℕ → List ℕ → ℕ × ℕ → Decimal
decimal_by minus whole fraction exponent =
    let n = pos (digits_value (whole ++ fraction)) in
    record { digits = (if minus then neg_ℤ n else n); up = exponent.0; down = exponent.1 + length fraction }

abbrev pub or_nothing : Option (List ℕ) → List ℕ
or_nothing None = []
or_nothing (Some bytes) = bytes

-- the decimal that a text writes, where it is a numeral
unfoldable pub numeral : List ℕ → Option Decimal
numeral text =
    let mantissa = before_first is_exponent_letter text in
    let whole = before_first is_point (without_sign mantissa) in
    let fraction = behind_first is_point mantissa in
    let exponent = power_of (behind_first is_exponent_letter text) in
    if is_mantissa whole fraction then option_map (decimal_by (has_minus mantissa) whole (or_nothing fraction)) exponent
    else None

-- ---- equality

-- both texts are numerals, of one value
abbrev pub are_one_number : List ℕ → List ℕ → Bool
are_one_number a b = elim (numeral a) [
  | None ↦ false
  | Some m ↦ elim (numeral b) [ None ↦ false | Some n ↦ same_decimal m n ]
]

-- two texts are equal: as numbers, or byte by byte (own: character references aren't decoded before)
abbrev pub same_text : List ℕ → List ℕ → Bool
same_text a b = are_one_number a b || bytes_eq a b

-- two outputs are equal: neither holds a sealed byte, and their texts are equal
abbrev pub same_output : List MarkedByte → List MarkedByte → Bool
same_output a b = elim (plain_text_of a) [
  | None ↦ false
  | Some text ↦ elim (plain_text_of b) [ None ↦ false | Some other ↦ same_text text other ]
]
