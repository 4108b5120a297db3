-- The parts of a numeral as they are read.
use Rattle.std.proofs.Common.{◌≡◌, ℕ, suc, ◌+◌, ◌≤◌, Bool, true, false, List, [], ◌∷◌, drop, Option, Some, None, refl, ap, inl, inr, arith}
use Rattle.std.specs.Prelude.{if◌then◌else◌, option_map, ◌&&◌, nat_le}
use Rattle.std.specs.Char.{is_ascii_digit}
use Rattle.std.specs.List.{list_all, list_any, before_first, position_or_len}
use Rattle.std.proofs.lemmas.Bool.{cases_Bool, leb-true}
use Rattle.std.proofs.lemmas.Bool.Decides.{nat_tests}
use Rattle.wk_text_rules.specs.Decimal.{digits_value}
use Rattle.wk_text_rules.specs.Numerals.{is_plus_or_minus, is_point, is_exponent_letter, is_digits, without_sign, has_minus, behind_first, is_mantissa, exponent_of, power_of, decimal_by, or_nothing, numeral}
use Rattle.wk_decimal.proofs.DigitLemmas.{head_tail}

no_point : (b : ℕ) → is_plus_or_minus b ≡ true → is_point b ≡ false
no_point b h = grind (arith, nat_tests)

one_more : (n b : ℕ) (bytes : List ℕ) → drop (1 + n + 1) (b ∷ bytes) ≡ drop (n + 1) bytes
one_more n b bytes = let e : 1 + n + 1 ≡ suc (n + 1) = omega arith in rw e refl

-- a sign is no point
behind_point : (bytes : List ℕ) → behind_first is_point bytes ≡ behind_first is_point (without_sign bytes)
behind_point [] = refl
behind_point (b ∷ bytes) = elim (cases_Bool (is_plus_or_minus b)) [
  | inl sign ↦ rw (sign, no_point b sign) (ap (λ (x : List ℕ). if list_any is_point bytes then Some x else None) (one_more (position_or_len is_point bytes) b bytes))
  | inr other ↦ rw other refl
]

-- the numeral by its parts
pub numeral_by_parts : (text mantissa digits whole : List ℕ) (behind_letter fraction : Option (List ℕ)) (minus : Bool) → mantissa ≡ before_first is_exponent_letter text → behind_letter ≡ behind_first is_exponent_letter text → minus ≡ has_minus mantissa → digits ≡ without_sign mantissa → whole ≡ before_first is_point digits → fraction ≡ behind_first is_point digits → numeral text ≡ (if is_mantissa whole fraction then option_map (decimal_by minus whole (or_nothing fraction)) (power_of behind_letter) else None)
unfolding numeral
numeral_by_parts text mantissa digits whole behind_letter fraction minus e1 e2 e3 e4 e5 e6 =
    let front = before_first is_exponent_letter text in
    let round = before_first is_point (without_sign front) in
    rw (e6, e5, e4, e3, e2, e1) (ap (λ (f : Option (List ℕ)). if is_mantissa round f then option_map (decimal_by (has_minus front) round (or_nothing f)) (power_of (behind_first is_exponent_letter text)) else None) (behind_point front))

-- what stands round the point is digits
pub mantissa_digits : (whole : List ℕ) (fraction : Option (List ℕ)) → is_mantissa whole fraction ≡ true → (list_all is_ascii_digit whole ≡ true) × (list_all is_ascii_digit (or_nothing fraction) ≡ true)
mantissa_digits whole None h = ((head_tail _ _ h).1, refl)
mantissa_digits whole (Some fraction) h = let both = head_tail _ _ h in (both.0, (head_tail _ _ both.1).1)

abbrev down_of : Option (ℕ × ℕ) → ℕ
down_of None = 0
down_of (Some power) = power.1

exponent_bounded : (bytes : List ℕ) → down_of (exponent_of bytes) ≤ 9999
exponent_bounded bytes =
    let n = digits_value (without_sign bytes) in
    elim (cases_Bool (is_digits (without_sign bytes) && nat_le n 9999)) [
      | inr none ↦ rw none (omega arith)
      | inl some ↦
          let small : n ≤ 9999 = leb-true n 9999 (head_tail (is_digits (without_sign bytes)) (nat_le n 9999) some).1 in
          elim (cases_Bool (has_minus bytes)) [ inl minus ↦ rw (some, minus) small | inr plus ↦ rw (some, plus) (omega arith) ]
    ]

power_down : (behind_letter : Option (List ℕ)) → down_of (power_of behind_letter) ≤ 9999
power_down None = omega arith
power_down (Some bytes) = exponent_bounded bytes

-- no power is further down than the greatest exponent
pub power_bounded : (behind_letter : Option (List ℕ)) (up down : ℕ) → power_of behind_letter ≡ Some (up, down) → down ≤ 9999
power_bounded behind_letter up down h = omega (arith, power_down behind_letter, ap down_of h)
