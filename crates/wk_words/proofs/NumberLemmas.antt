-- The numbers that `clap` takes and those that are written without a sign or a leading zero.
use Rattle.std.proofs.Common.{◌≡◌, ◌≢◌, ◌<◌, ◌≤◌, ◌+◌, ◌-◌, ◌*◌, ◌^◌, ◌&&◌, ◌==◌, not, ℕ, Bool, true, false, List, [], ◌∷◌, Some, None, refl, sym, ap, arith, get_or, nat_lt}
use Rattle.std.specs.Prelude.{fold, if◌then◌else◌}
use Rattle.std.specs.List.{list_all}
use Rattle.std.specs.Char.{is_ascii_digit}
use Rattle.std.specs.Str.{all_ascii_digits}
use Rattle.std.specs.Str.Parse.{AllDigits, without_leading_plus}
use Rattle.std.specs.Str.Parse as parsing
use Rattle.std.proofs.lemmas.Bool.{leb-true, ltb-true, lt-ltb}
use Rattle.std.proofs.lemmas.Str.Parse.{FoldsDigits, IsNumeralModel, numerals_by_fold, tells_all_ascii_digits, without_leading_plus_none}
use Rattle.clap.specs.ValueTests.{is_unsigned_in}
use Rattle.clap.proofs.WalkLemmas.{both}
use Rattle.wk_text_rules.specs.Decimal.{is_decimal, digits_value, decimal_number}

-- the digits of a number
all_digits : (t : List ℕ) → is_decimal t ≡ true → all_ascii_digits t ≡ true
all_digits [] h = cc
all_digits (d ∷ []) h = rw h refl
all_digits (d ∷ e ∷ ds) h = again (d ∷ e ∷ ds) (both (not (d == 48)) (list_all is_ascii_digit (d ∷ e ∷ ds)) h).1
  where
    again : (ds : List ℕ) → list_all is_ascii_digit ds ≡ true → all_ascii_digits ds ≡ true
    again [] h = refl
    again (x ∷ xs) h = let parts = both (is_ascii_digit x) (list_all is_ascii_digit xs) h in rw (parts.0, again xs parts.1) refl

folds : FoldsDigits (λ n ds. fold (λ n d. 10 * n + (d - 48)) n ds)
folds = record {
  empty = λ n. refl;
  more = λ n c cs digit. let same : 10 * n + (c - 48) ≡ n * 10 + (c - 48) = omega arith in ap (λ (m : ℕ). fold (λ n d. 10 * n + (d - 48)) m cs) same;
}

model : IsNumeralModel (λ ds. all_ascii_digits ds ≡ true) digits_value
model = numerals_by_fold (λ ds. all_ascii_digits ds ≡ true) tells_all_ascii_digits (λ n ds. fold (λ n d. 10 * n + (d - 48)) n ds) folds

no_plus : (t : List ℕ) → is_decimal t ≡ true → get_or t 0 0 ≢ 43
no_plus [] h = cc
no_plus (d ∷ ds) h = λ e.
    let digit : is_ascii_digit d ≡ true = (both (is_ascii_digit d) (all_ascii_digits ds) (all_digits (d ∷ ds) h)).0 in
    let bad : is_ascii_digit 43 ≡ true = rw e at digit in
    cc

-- both read the same number
same_value : (t : List ℕ) → is_decimal t ≡ true → parsing.digits_value 10 (without_leading_plus t) ≡ digits_value t
same_value t h =
    let plain : without_leading_plus t ≡ t = without_leading_plus_none t (no_plus t h) in
    rw plain (sym (model.same t (model.to t (all_digits t h))))

-- a number that `clap` takes lies in the range, and below 2 ^ 64
pub in_range : (least most : ℕ) (t : List ℕ) → is_decimal t ≡ true → is_unsigned_in least most t ≡ true
    → (least ≤ digits_value t) × (digits_value t ≤ most) × (digits_value t < 2 ^ 64)
in_range least most t h taken =
    let parts = both _ _ (both _ _ taken).1 in
    let ends = both _ _ parts.1 in
    let same = same_value t h in
    let below = ltb-true _ _ parts.0 in
    let low = leb-true _ _ ends.0 in
    let high = leb-true _ _ ends.1 in
    (rw (sym same) low, rw (sym same) high, rw (sym same) below)

-- the number that is read is the one that is written
pub number_is : (t : List ℕ) (n : ℕ) → decimal_number t ≡ Some n → (is_decimal t ≡ true) × (digits_value t ≡ n)
unfolding decimal_number
number_is t n h = go (is_decimal t) (nat_lt (digits_value t) (2 ^ 64)) refl h
  where
    go : (a b : Bool) → is_decimal t ≡ a → (if a && b then Some (digits_value t) else None) ≡ Some n → (is_decimal t ≡ true) × (digits_value t ≡ n)
    go true true e h = (e, cc)
    go true false e h = cc
    go false b e h = cc

-- and none is read only where none is written
pub no_number : (least most : ℕ) (t : List ℕ) → decimal_number t ≡ None → is_unsigned_in least most t ≡ true → is_decimal t ≡ false
unfolding decimal_number
no_number least most t none taken = go (is_decimal t) refl
  where
    go : (a : Bool) → is_decimal t ≡ a → is_decimal t ≡ false
    go false e = e
    go true e =
        let small = lt-ltb _ _ (in_range least most t e taken).2 in
        let some : (if is_decimal t && nat_lt (digits_value t) (2 ^ 64) then Some (digits_value t) else None) ≡ Some (digits_value t) = rw (e, small) refl in
        cc
