-- Numbers of items, and where they stand.
use Rattle.std.proofs.Common.{◌≡◌, ℕ, zero, suc, ◌+◌, ◌<◌, Bool, true, false, eqb, ltb, List, [], ◌∷◌, length, get_or, map, set, None, refl, sym, ap, ◌∙◌, subst, inl, inr, arith}
use Rattle.std.specs.List.{list_any, position, position_or_len}
use Rattle.std.proofs.lemmas.Bool.{cases_Bool}
use Rattle.std.proofs.lemmas.List.{get_or-map, length-map}
use Rattle.wk_table_rows.specs.Rising.{IsRising}
use Rattle.wk_table_rows.proofs.FirstPlace.{position-None}

-- a number that stays
pub map-same : {X : Type 0} (f : X → ℕ) (xs : List X) (i : ℕ) (y : X) → ((d : X) → f (get_or xs i d) ≡ f y) → map f (set xs i y) ≡ map f xs
map-same f [] i y same = refl
map-same f (x ∷ xs) zero y same = ap (λ n. n ∷ map f xs) (sym (same y))
map-same f (x ∷ xs) (suc i) y same = ap (λ later. f x ∷ later) (map-same f xs i y same)

pub list_any-none : {X : Type 0} (p : X → Bool) (xs : List X) → ((k : ℕ) (d : X) → k < length xs → p (get_or xs k d) ≡ false) → list_any p xs ≡ false
list_any-none p [] none = refl
list_any-none p (x ∷ xs) none = rw (none 0 x (omega arith)) (list_any-none p xs (λ k d l. none (suc k) d (omega arith)))

pub any-found : {X : Type 0} (p : X → Bool) (xs : List X) → None ≡ position p xs → list_any p xs ≡ true → ⊥
any-found p xs none some = let no : false ≡ true = sym (list_any-none p xs (position-None p xs (sym none))) ∙ some in cc

-- a place among numbers is one among what has them
position_or_len-map : {X : Type 0} (f : X → ℕ) (p : ℕ → Bool) (xs : List X) → position_or_len p (map f xs) ≡ position_or_len (λ x. p (f x)) xs
position_or_len-map f p [] = refl
position_or_len-map f p (x ∷ xs) = elim (cases_Bool (p (f x))) [
  | inl here ↦ rw here refl
  | inr later ↦ let ih = position_or_len-map f p xs in rw later (omega (arith, ih))
]

pub position-map : {X : Type 0} (f : X → ℕ) (p : ℕ → Bool) (xs : List X) → position p (map f xs) ≡ position (λ x. p (f x)) xs
position-map f p xs = rw (position_or_len-map f p xs, length-map xs f) refl

pub IsRising-from_map : {X : Type 0} (number : X → ℕ) (items : List X) → IsRising (λ n. n) (map number items) → IsRising number items
IsRising-from_map number items rising a b d before within =
    let long : length (map number items) ≡ length items = length-map items number in
    subst (λ n. n < number (get_or items b d)) (get_or-map number items a d (number d) (omega arith))
    (subst (λ n. get_or (map number items) a (number d) < n) (get_or-map number items b d (number d) within) (rising a b (number d) before (omega arith)))
