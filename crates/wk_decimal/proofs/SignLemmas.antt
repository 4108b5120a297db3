-- Numbers with a sign, compared as fractions.
use Rattle.std.proofs.Common.{◌≡◌, ℕ, zero, suc, ◌*◌, ◌^◌, ◌<◌, ℤ, pos, ◌*ℤ◌, neg_ℤ, Bool, true, false, ◌==◌, List, [], ◌∷◌, length, refl, sym, ap, ◌∙◌, inl, inr, arith, lit<}
use Rattle.std.specs.Prelude.{if◌then◌else◌}
use Rattle.std.specs.Ordering.{int_eq}
use Rattle.std.proofs.lemmas.Bool.{cases_Bool, false≢true}
use Rattle.std.proofs.lemmas.Bool.Decides.{same_from_decides, Decides-int_eq, nat_tests}
use Rattle.std.proofs.Math.Nat.{one-le-pow, zero-mul, le-mul_of_pos_right}
use mathlib.Core.Bool.{beq}
use Rattle.wk_text_rules.specs.Decimal.{digits_value}
use Rattle.wk_decimal.specs.Digits.{IsSignificant}
use Rattle.wk_decimal.proofs.DigitLemmas.{above_from_digits}

abbrev signed : Bool → ℕ → ℤ
signed minus n = if minus then neg_ℤ (pos n) else pos n

signed-mul : (minus : Bool) (n p : ℕ) → signed minus n *ℤ pos p ≡ signed minus (n * p)
signed-mul false n p = refl
signed-mul true zero p = rw (zero-mul p) refl
signed-mul true (suc n) p = refl

same_from_signed : (m n : Bool) (x y : ℕ) → 0 < x → 0 < y → signed m x ≡ signed n y → (m ≡ n) × (x ≡ y)
same_from_signed m n zero y a b e = absurd (omega arith)
same_from_signed m n (suc x) zero a b e = absurd (omega arith)
same_from_signed false false (suc x) (suc y) a b e = (refl, cc)
same_from_signed false true (suc x) (suc y) a b e = absurd (cc)
same_from_signed true false (suc x) (suc y) a b e = absurd (cc)
same_from_signed true true (suc x) (suc y) a b e = (refl, cc)

abbrev IsOneNumber : Bool → ℕ → ℕ → Bool → ℕ → ℕ → Type 0
IsOneNumber m x p n y q = signed m x *ℤ pos (10 ^ p) ≡ signed n y *ℤ pos (10 ^ q)

raised : (x p : ℕ) → 0 < x → 0 < x * 10 ^ p
raised x p h = omega (arith, le-mul_of_pos_right x (one-le-pow p 10 (lit< tt)))

zero_sign : (m : Bool) → signed m 0 ≡ pos 0
zero_sign true = refl
zero_sign false = refl

-- zero has no sign
zeros_are_one : (m n : Bool) (p q : ℕ) → IsOneNumber m 0 p n 0 q
zeros_are_one m n p q = rw (zero_sign m, zero_sign n, zero-mul (10 ^ p), zero-mul (10 ^ q)) refl

zero_is_no_other : (m n : Bool) (y p q : ℕ) → 0 < y → signed n y *ℤ pos (10 ^ q) ≡ signed m 0 *ℤ pos (10 ^ p) → ⊥
zero_is_no_other m n y p q h e =
    let z : signed n (y * 10 ^ q) ≡ pos 0 =
    sym (signed-mul n y (10 ^ q)) ∙ e ∙ signed-mul m 0 (10 ^ p) ∙ ap (signed m) (zero-mul (10 ^ p)) ∙ zero_sign m in
    not_zero n (y * 10 ^ q) (raised y q h) z
  where
    not_zero : (n : Bool) (x : ℕ) → 0 < x → signed n x ≡ pos 0 → ⊥
    not_zero n zero a e = absurd (omega arith)
    not_zero true (suc x) a e = cc
    not_zero false (suc x) a e = cc

others_are_one : (m n : Bool) (x y p q : ℕ) → m ≡ n → x * 10 ^ p ≡ y * 10 ^ q → IsOneNumber m x p n y q
others_are_one m n x y p q s e = signed-mul m x (10 ^ p) ∙ ap (signed m) e ∙ ap (λ b. signed b (y * 10 ^ q)) s ∙ sym (signed-mul n y (10 ^ q))

one_from_others : (m n : Bool) (x y p q : ℕ) → 0 < x → 0 < y → IsOneNumber m x p n y q → (m ≡ n) × (x * 10 ^ p ≡ y * 10 ^ q)
one_from_others m n x y p q a b e =
    same_from_signed m n (x * 10 ^ p) (y * 10 ^ q) (raised x p a) (raised y q b) (sym (signed-mul m x (10 ^ p)) ∙ e ∙ signed-mul n y (10 ^ q))

no_digits : (ds : List ℕ) → (length ds == 0) ≡ true → digits_value ds ≡ 0
no_digits [] h = refl
no_digits (d ∷ ds) h = absurd (grind (arith, nat_tests))

some_digits : (ds : List ℕ) → (length ds == 0) ≡ false → IsSignificant ds → 0 < digits_value ds
some_digits ds h s = above_from_digits ds s (grind (arith, nat_tests))

-- a number is zero where it has no digits, and then equal to zero alone
pub same_as_zero : (m n : Bool) (ds es : List ℕ) (p q : ℕ) → (length ds == 0) ≡ true → IsSignificant es → (length es == 0) ≡ int_eq (signed m (digits_value ds) *ℤ pos (10 ^ p)) (signed n (digits_value es) *ℤ pos (10 ^ q))
same_as_zero m n ds es p q none sig =
    same_from_decides {P = IsOneNumber m (digits_value ds) p n (digits_value es) q} _ _ (
      λ none_too. rw (no_digits ds none, no_digits es none_too) (zeros_are_one m n p q),
      λ e. elim (cases_Bool (length es == 0)) [
        | inl none_too ↦ none_too
        | inr some ↦ absurd (zero_is_no_other m n (digits_value es) p q (some_digits es some sig) (sym (rw (no_digits ds none) at e)))
      ],
    )
    (Decides-int_eq _ _)

pub other_than_zero : (m n : Bool) (ds es : List ℕ) (p q : ℕ) → (length ds == 0) ≡ false → IsSignificant ds → (length es == 0) ≡ true → false ≡ int_eq (signed m (digits_value ds) *ℤ pos (10 ^ p)) (signed n (digits_value es) *ℤ pos (10 ^ q))
other_than_zero m n ds es p q some sig none =
    same_from_decides {P = IsOneNumber m (digits_value ds) p n (digits_value es) q} _ _ (
      λ t. absurd (false≢true t),
      λ e. absurd (zero_is_no_other n m (digits_value ds) q p (some_digits ds some sig) (rw (no_digits es none) at e)),
    )
    (Decides-int_eq _ _)

-- two numbers other than zero are one where their signs and their sizes are
pub same_as_others : (m n : Bool) (ds es : List ℕ) (p q : ℕ) (r : Bool) → (length ds == 0) ≡ false → (length es == 0) ≡ false → IsSignificant ds → IsSignificant es → (r ≡ true → (m ≡ n) × (digits_value ds * 10 ^ p ≡ digits_value es * 10 ^ q)) → ((m ≡ n) × (digits_value ds * 10 ^ p ≡ digits_value es * 10 ^ q) → r ≡ true) → r ≡ int_eq (signed m (digits_value ds) *ℤ pos (10 ^ p)) (signed n (digits_value es) *ℤ pos (10 ^ q))
same_as_others m n ds es p q r some some_too sig sig_too there back =
    same_from_decides {P = IsOneNumber m (digits_value ds) p n (digits_value es) q} r _ (
      λ t. others_are_one m n (digits_value ds) (digits_value es) p q (there t).0 (there t).1,
      λ e. back (one_from_others m n (digits_value ds) (digits_value es) p q (some_digits ds some sig) (some_digits es some_too sig_too) e),
    )
    (Decides-int_eq _ _)

pub same_from_beq : (m n : Bool) → beq m n ≡ true → m ≡ n
same_from_beq true true e = refl
same_from_beq false false e = refl
same_from_beq true false e = absurd (false≢true e)
same_from_beq false true e = absurd (false≢true e)

pub other_from_beq : (m n : Bool) → beq m n ≡ false → m ≡ n → ⊥
other_from_beq true true e s = false≢true (sym e)
other_from_beq false false e s = false≢true (sym e)
other_from_beq true false e s = cc
other_from_beq false true e s = cc
