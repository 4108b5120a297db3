-- The value of decimal digits: digits without zeros in front are the same where their values are equal.
use Rattle.std.proofs.Common.{◌≡◌, ◌≢◌, ℕ, suc, zero, ◌+◌, ◌-◌, ◌*◌, ◌^◌, ◌<◌, ◌≤◌, Bool, true, false, ◌&&◌, List, [], ◌∷◌, ◌++◌, length, get_or, replicate, refl, sym, ap, ◌∙◌, inl, inr, arith, lit<}
use Rattle.std.specs.Prelude.{fold, Some}
use Rattle.std.specs.Char.{is_ascii_digit}
use Rattle.std.specs.List.{list_all}
use Rattle.std.proofs.lemmas.Nat.{same_from_place}
use Rattle.std.proofs.lemmas.Bool.{cases_order, false≢true}
use Rattle.std.proofs.lemmas.Bool.Decides.{nat_tests}
use Rattle.std.proofs.lemmas.List.{length-append, length-replicate, ext_get_or}
use Rattle.std.proofs.lemmas.List.Sums.{fold-append}
use Rattle.std.proofs.Math.Nat.{pow-suc, one-le-pow, pow-le-pow_right, mul-le-mul_right}
use Rattle.wk_text_rules.specs.Decimal.{digits_value}
use Rattle.wk_decimal.specs.Digits.{IsSignificant}

spread : (n k p : ℕ) → (10 * n + k) * p ≡ n * (p * 10) + k * p
spread n k p = omega arith

-- digits behind a number raise it by a power of ten
fold_from : (n : ℕ) (ds : List ℕ) → fold (λ n d. 10 * n + (d - 48)) n ds ≡ n * 10 ^ length ds + digits_value ds
fold_from n [] = omega arith
fold_from n (d ∷ ds) =
    let p = 10 ^ length ds in
    let raised : n * 10 ^ suc (length ds) ≡ n * (p * 10) = ap (λ k. n * k) (pow-suc 10 (length ds)) in
    let first : (0 + (d - 48)) * p ≡ (d - 48) * p = omega arith in
    omega (arith, fold_from (10 * n + (d - 48)) ds, fold_from (0 + (d - 48)) ds, spread n (d - 48) p, raised, first)

pub digits_value-cons : (d : ℕ) (ds : List ℕ) → digits_value (d ∷ ds) ≡ (d - 48) * 10 ^ length ds + digits_value ds
digits_value-cons d ds =
    let first : (0 + (d - 48)) * 10 ^ length ds ≡ (d - 48) * 10 ^ length ds = omega arith in
    omega (arith, fold_from (0 + (d - 48)) ds, first)

pub digits_value-append : (ds es : List ℕ) → digits_value (ds ++ es) ≡ digits_value ds * 10 ^ length es + digits_value es
digits_value-append ds es = fold-append (λ n d. 10 * n + (d - 48)) 0 ds es ∙ fold_from (digits_value ds) es

pub digits_value-zeros : (p : ℕ) → digits_value (replicate p 48) ≡ 0
digits_value-zeros zero = refl
digits_value-zeros (suc p) = digits_value-zeros p

-- zeros behind the last digit raise the value by a power of ten
pub digits_value-padded : (ds : List ℕ) (p : ℕ) → digits_value (ds ++ replicate p 48) ≡ digits_value ds * 10 ^ p
digits_value-padded ds p =
    digits_value-append ds (replicate p 48) ∙ omega (arith, digits_value-zeros p, ap (λ k. digits_value ds * 10 ^ k) (length-replicate {A = ℕ} p 48))

digit_bounds : (d : ℕ) → is_ascii_digit d ≡ true → (48 ≤ d) × (d ≤ 57)
digit_bounds d h = grind (arith, nat_tests)

pub head_tail : (b c : Bool) → (b && c) ≡ true → (b ≡ true) × (c ≡ true)
head_tail true c h = (refl, h)
head_tail false c h = absurd (false≢true h)

-- the value of digits is below the power of ten of their number
pub digits_value-below : (ds : List ℕ) → list_all is_ascii_digit ds ≡ true → digits_value ds < 10 ^ length ds
digits_value-below [] h = omega arith
digits_value-below (d ∷ ds) h =
    let both = head_tail (is_ascii_digit d) (list_all is_ascii_digit ds) h in
    let bounds = digit_bounds d both.0 in
    let small : d - 48 ≤ 9 = omega arith in
    omega (arith, digits_value-cons d ds, digits_value-below ds both.1, pow-suc 10 (length ds), mul-le-mul_right (10 ^ length ds) small)

-- digits that begin with none of value zero are worth at least the power of ten of the first
pub digits_value-reaches : (d : ℕ) (ds : List ℕ) → 48 < d → 10 ^ length ds ≤ digits_value (d ∷ ds)
digits_value-reaches d ds h =
    let one : 1 ≤ d - 48 = omega arith in
    omega (arith, digits_value-cons d ds, mul-le-mul_right (10 ^ length ds) one)

-- as many digits of one value are the same digits
pub same_from_values : (ds es : List ℕ) → list_all is_ascii_digit ds ≡ true → list_all is_ascii_digit es ≡ true → length ds ≡ length es → digits_value ds ≡ digits_value es → ds ≡ es
same_from_values [] [] h k e v = refl
same_from_values [] (x ∷ es) h k e v = absurd (omega arith)
same_from_values (d ∷ ds) [] h k e v = absurd (omega arith)
same_from_values (d ∷ ds) (x ∷ es) h k e v =
    let dh = head_tail (is_ascii_digit d) (list_all is_ascii_digit ds) h in
    let xh = head_tail (is_ascii_digit x) (list_all is_ascii_digit es) k in
    let tails : length ds ≡ length es = omega arith in
    let below = digits_value-below es xh.1 in
    let here : digits_value ds < 10 ^ length ds = digits_value-below ds dh.1 in
    let there : digits_value es < 10 ^ length ds = rw tails below in
    let sums : (d - 48) * 10 ^ length ds + digits_value ds ≡ (x - 48) * 10 ^ length ds + digits_value es =
    sym (digits_value-cons d ds) ∙ v ∙ digits_value-cons x es ∙ ap (λ n. (x - 48) * 10 ^ n + digits_value es) (sym tails) in
    let parts = same_from_place (d - 48) (digits_value ds) (x - 48) (digits_value es) (10 ^ length ds) here there sums in
    let heads : d ≡ x = omega (arith, digit_bounds d dh.0, digit_bounds x xh.0, parts.0) in
    ap (λ y. y ∷ ds) heads ∙ ap (λ ys. x ∷ ys) (same_from_values ds es dh.1 xh.1 tails parts.1)

-- digits of one value that begin with none of value zero are as many
same_length : (d : ℕ) (ds : List ℕ) (x : ℕ) (es : List ℕ) → list_all is_ascii_digit (d ∷ ds) ≡ true → list_all is_ascii_digit (x ∷ es) ≡ true → 48 < d → 48 < x → digits_value (d ∷ ds) ≡ digits_value (x ∷ es) → length ds ≡ length es
same_length d ds x es h k dn xn v = elim (cases_order (length ds) (length es)) [
  | inl same ↦ same
  | inr (inl less) ↦
      let room : suc (length ds) ≤ length es = omega arith in
      absurd (omega (arith, digits_value-below (d ∷ ds) h, digits_value-reaches x es xn, pow-le-pow_right (lit< {m = 0} {n = 10} tt) room))
  | inr (inr more) ↦
      let room : suc (length es) ≤ length ds = omega arith in
      absurd (omega (arith, digits_value-below (x ∷ es) k, digits_value-reaches d ds dn, pow-le-pow_right (lit< {m = 0} {n = 10} tt) room))
]

-- zeros behind the last digit are what stands there anyway
get_or-zeros : (p k : ℕ) → get_or {A = ℕ} (replicate p 48) k 48 ≡ 48
get_or-zeros zero k = refl
get_or-zeros (suc p) zero = refl
get_or-zeros (suc p) (suc k) = get_or-zeros p k

get_or-padded : (ds : List ℕ) (p k : ℕ) → get_or (ds ++ replicate p 48) k 48 ≡ get_or ds k 48
get_or-padded [] p k = get_or-zeros p k
get_or-padded (d ∷ ds) p zero = refl
get_or-padded (d ∷ ds) p (suc k) = get_or-padded ds p k

zeros_are_digits : (p : ℕ) → list_all is_ascii_digit (replicate p 48) ≡ true
zeros_are_digits zero = refl
zeros_are_digits (suc p) = zeros_are_digits p

padded_are_digits : (ds : List ℕ) (p : ℕ) → list_all is_ascii_digit ds ≡ true → list_all is_ascii_digit (ds ++ replicate p 48) ≡ true
padded_are_digits [] p h = zeros_are_digits p
padded_are_digits (d ∷ ds) p h =
    let both = head_tail (is_ascii_digit d) (list_all is_ascii_digit ds) h in
    rw both.0 (padded_are_digits ds p both.1)

above_zero : (d : ℕ) (ds : List ℕ) → IsSignificant (d ∷ ds) → 48 < d
above_zero d ds h =
    let bounds = digit_bounds d (head_tail (is_ascii_digit d) (list_all is_ascii_digit ds) h.all_digits).0 in
    let other : d ≢ 48 = λ e. h.no_zero_first (ap Some e) in
    omega arith

-- where two numbers are equal, their digits are, from the first on, and the first is worth the same
pub same_from_products : (ds es : List ℕ) (p q : ℕ) → IsSignificant ds → IsSignificant es → 0 < length ds → 0 < length es → digits_value ds * 10 ^ p ≡ digits_value es * 10 ^ q → (length ds + p ≡ length es + q) × ((k : ℕ) → get_or ds k 48 ≡ get_or es k 48)
same_from_products [] es p q a b m n v = absurd (omega arith)
same_from_products (d ∷ ds) [] p q a b m n v = absurd (omega arith)
same_from_products (d ∷ ds) (x ∷ es) p q a b m n v =
    let ads = padded_are_digits (d ∷ ds) p a.all_digits in
    let bds = padded_are_digits (x ∷ es) q b.all_digits in
    let values : digits_value ((d ∷ ds) ++ replicate p 48) ≡ digits_value ((x ∷ es) ++ replicate q 48) =
    digits_value-padded (d ∷ ds) p ∙ v ∙ sym (digits_value-padded (x ∷ es) q) in
    let tails : length (ds ++ replicate p 48) ≡ length (es ++ replicate q 48) =
    same_length d (ds ++ replicate p 48) x (es ++ replicate q 48) ads bds (above_zero d ds a) (above_zero x es b) values in
    let lists : (d ∷ ds) ++ replicate p 48 ≡ (x ∷ es) ++ replicate q 48 =
    same_from_values ((d ∷ ds) ++ replicate p 48) ((x ∷ es) ++ replicate q 48) ads bds (omega arith) values in (
      simp (length-append {A = ℕ}, length-replicate {A = ℕ}) at (ap length lists),
      λ k. sym (get_or-padded (d ∷ ds) p k) ∙ ap (λ xs. get_or xs k 48) lists ∙ get_or-padded (x ∷ es) q k,
    )

pub products_from_same : (ds es : List ℕ) (p q : ℕ) → length ds + p ≡ length es + q → ((k : ℕ) → get_or ds k 48 ≡ get_or es k 48) → digits_value ds * 10 ^ p ≡ digits_value es * 10 ^ q
products_from_same ds es p q l each =
    let lengths : length (ds ++ replicate p 48) ≡ length (es ++ replicate q 48) =
    simp (length-append {A = ℕ}, length-replicate {A = ℕ}) l in
    let lists : ds ++ replicate p 48 ≡ es ++ replicate q 48 =
    ext_get_or 48 (ds ++ replicate p 48) (es ++ replicate q 48) lengths (λ k _. get_or-padded ds p k ∙ each k ∙ sym (get_or-padded es q k)) in
    sym (digits_value-padded ds p) ∙ ap digits_value lists ∙ digits_value-padded es q

-- digits without zeros in front are worth zero exactly where there is none
pub above_from_digits : (ds : List ℕ) → IsSignificant ds → 0 < length ds → 0 < digits_value ds
above_from_digits [] h n = absurd (omega arith)
above_from_digits (d ∷ ds) h n = omega (arith, digits_value-reaches d ds (above_zero d ds h), one-le-pow (length ds) 10 (lit< tt))
