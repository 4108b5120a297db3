-- Zeros in front of digits.
use Rattle.std.proofs.Common.{◌≡◌, ℕ, suc, ◌+◌, ◌-◌, ◌*◌, ◌^◌, ◌<◌, Bool, true, false, List, [], ◌∷◌, ◌++◌, length, drop, refl, sym, ap, ◌∙◌, inl, inr, arith}
use Rattle.std.specs.Prelude.{pos, neg_ℤ, if◌then◌else◌}
use Rattle.std.specs.Char.{is_ascii_digit}
use Rattle.std.specs.List.{list_all, prefix_len}
use Rattle.std.proofs.lemmas.Bool.{cases_Bool, false≢true}
use Rattle.std.proofs.lemmas.Bool.Decides.{nat_tests}
use Rattle.wk_text_rules.specs.Decimal.{digits_value}
use Rattle.wk_text_rules.specs.Numerals.{Decimal}
use Rattle.wk_decimal.specs.Digits.{is_zero, without_leading_zeros, IsSignificant}
use Rattle.wk_decimal.proofs.DigitLemmas.{digits_value-cons, head_tail}

one_more : (n d : ℕ) (ds : List ℕ) → drop (1 + n) (d ∷ ds) ≡ drop n ds
one_more n d ds = let e : 1 + n ≡ suc n = omega arith in rw e refl

zero_first : (d : ℕ) (ds : List ℕ) → is_zero d ≡ true → without_leading_zeros (d ∷ ds) ≡ without_leading_zeros ds
zero_first d ds h = rw h (one_more (prefix_len is_zero ds) d ds)

other_first : (d : ℕ) (ds : List ℕ) → is_zero d ≡ false → without_leading_zeros (d ∷ ds) ≡ d ∷ ds
other_first d ds h = rw h refl

pub digits_value-without_leading_zeros : (ds : List ℕ) → digits_value (without_leading_zeros ds) ≡ digits_value ds
digits_value-without_leading_zeros [] = refl
digits_value-without_leading_zeros (d ∷ ds) = elim (cases_Bool (is_zero d)) [
  | inl is ↦
      let value : d - 48 ≡ 0 = grind (arith, nat_tests) in
      let nothing : (d - 48) * 10 ^ length ds ≡ 0 = rw value (omega arith) in
      rw (zero_first d ds is) (omega (arith, digits_value-without_leading_zeros ds, digits_value-cons d ds, nothing))
  | inr other ↦ rw (other_first d ds other) refl
]

pub is_significant : (ds : List ℕ) → list_all is_ascii_digit ds ≡ true → IsSignificant (without_leading_zeros ds)
is_significant [] h = record { all_digits = refl; no_zero_first = λ e. cc }
is_significant (d ∷ ds) h = elim (cases_Bool (is_zero d)) [
  | inl is ↦ rw (zero_first d ds is) (is_significant ds (head_tail (is_ascii_digit d) (list_all is_ascii_digit ds) h).1)
  | inr other ↦
      rw (other_first d ds other) (record {
        all_digits = h;
        no_zero_first = λ e. let zero : d ≡ 48 = cc in false≢true (sym other ∙ ap is_zero zero);
      })
]

-- zeros alone may stand in front of the others
pub without_leading_zeros-append_none : (ds es : List ℕ) → without_leading_zeros ds ≡ [] → without_leading_zeros (ds ++ es) ≡ without_leading_zeros es
without_leading_zeros-append_none [] es h = refl
without_leading_zeros-append_none (d ∷ ds) es h = elim (cases_Bool (is_zero d)) [
  | inl is ↦ zero_first d (ds ++ es) is ∙ without_leading_zeros-append_none ds es (sym (zero_first d ds is) ∙ h)
  | inr other ↦ let clash : d ∷ ds ≡ [] = sym (other_first d ds other) ∙ h in absurd (cc)
]

pub without_leading_zeros-append_some : (ds es : List ℕ) → 0 < length (without_leading_zeros ds) → without_leading_zeros (ds ++ es) ≡ without_leading_zeros ds ++ es
without_leading_zeros-append_some [] es h = absurd (omega arith)
without_leading_zeros-append_some (d ∷ ds) es h = elim (cases_Bool (is_zero d)) [
  | inl is ↦
      let rest = rw (zero_first d ds is) at h in
      zero_first d (ds ++ es) is ∙ without_leading_zeros-append_some ds es rest ∙ ap (λ xs. xs ++ es) (sym (zero_first d ds is))
  | inr other ↦ other_first d (ds ++ es) other ∙ ap (λ xs. xs ++ es) (sym (other_first d ds other))
]

-- the two parts that count are the digits round the point without the zeros in front
pub without_leading_zeros-parts : (whole fraction front back : List ℕ) → front ≡ without_leading_zeros whole → (front ≡ [] → back ≡ without_leading_zeros fraction) → (0 < length front → back ≡ fraction) → front ++ back ≡ without_leading_zeros (whole ++ fraction)
without_leading_zeros-parts whole fraction [] back e none some =
    none refl ∙ sym (without_leading_zeros-append_none whole fraction (sym e))
without_leading_zeros-parts whole fraction (d ∷ front) back e none some =
    let lengths : length (d ∷ front) ≡ length (without_leading_zeros whole) = ap length e in
    ap (λ xs. (d ∷ front) ++ xs) (some (omega arith)) ∙ ap (λ xs. xs ++ fraction) e ∙ sym (without_leading_zeros-append_some whole fraction (omega arith))

-- the decimal of a value and its power of ten
abbrev pub written : Bool → ℕ → ℕ → ℕ → Decimal
written minus value up down =
    record { digits = (if minus then neg_ℤ (pos value) else pos value); up = up; down = down }
