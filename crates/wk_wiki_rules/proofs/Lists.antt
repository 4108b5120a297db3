-- Lemmas on lists without two alike, and on tests of their elements.
use Rattle.std.proofs.Common.{◌≡◌, ℕ, Bool, true, false, cond, eqb, ◌||◌, List, [], ◌∷◌, ◌++◌, map, refl, sym, ap, ◌∙◌, inl, inr}
use Rattle.std.specs.List.{AllByRecursion, IsDistinct, filter, list_any}
use Rattle.std.proofs.lemmas.Bool.{cases_Bool, or_parts, eqb-true, eq-eqb, both_ways, false_from_ne_true}

pub eqb_flips : (a b : ℕ) → eqb a b ≡ eqb b a
eqb_flips a b = elim (cases_Bool (eqb a b)) [
  | inl same ↦ same ∙ sym (eq-eqb b a (sym (eqb-true a b same)))
  | inr other ↦ other ∙ sym (false_from_ne_true (eqb b a) (λ same. both_ways (eqb a b) other (eq-eqb a b (sym (eqb-true b a same)))))
]

module _ {K : Type 0} (e : K → K → Bool) where
  none-push : (x : K) (xs : List K) (y : K) → AllByRecursion (λ z. e x z ≡ false) xs → e x y ≡ false → AllByRecursion (λ z. e x z ≡ false) (xs ++ y ∷ [])
  none-push x [] y none other = (other, tt)
  none-push x (z ∷ xs) y none other = (none.0, none-push x xs y none.1 other)

  -- one more at the end, which no element equals
  pub IsDistinct-push : (xs : List K) (y : K) → IsDistinct e xs → list_any (λ x. e x y) xs ≡ false → IsDistinct e (xs ++ y ∷ [])
  unfolding IsDistinct
  IsDistinct-push [] y apart none = (tt, tt)
  IsDistinct-push (x ∷ xs) y apart none =
      let parts = or_parts (e x y) (list_any (λ z. e z y) xs) none in
      (none-push x xs y apart.0 parts.0, IsDistinct-push xs y apart.1 parts.1)

  module _ {X : Type 0} (f : X → K) (p : X → Bool) where
    none-filter : (x : K) (xs : List X) → AllByRecursion (λ z. e x z ≡ false) (map f xs) → AllByRecursion (λ z. e x z ≡ false) (map f (filter p xs))
    none-filter x [] none = tt
    none-filter x (y ∷ xs) none = elim (p y) as (λ b. AllByRecursion (λ z. e x z ≡ false) (map f (cond b (y ∷ filter p xs) (filter p xs)))) [
      | true ↦ (none.0, none-filter x xs none.1)
      | false ↦ none-filter x xs none.1
    ]

    -- what a filter leaves has no two alike
    pub IsDistinct-filter : (xs : List X) → IsDistinct e (map f xs) → IsDistinct e (map f (filter p xs))
    unfolding IsDistinct
    IsDistinct-filter [] apart = tt
    IsDistinct-filter (x ∷ xs) apart = elim (p x) as (λ b. IsDistinct e (map f (cond b (x ∷ filter p xs) (filter p xs)))) [
      | true ↦ (none-filter (f x) xs apart.0, IsDistinct-filter xs apart.1)
      | false ↦ IsDistinct-filter xs apart.1
    ]

-- a test of what a map gives
pub list_any-map : {X Y : Type 0} (p : Y → Bool) (f : X → Y) (xs : List X) → list_any p (map f xs) ≡ list_any (λ x. p (f x)) xs
list_any-map p f [] = refl
list_any-map p f (x ∷ xs) = ap (λ b. p (f x) || b) (list_any-map p f xs)

-- two maps one after the other
pub map-map : {X Y Z : Type 0} (g : Y → Z) (f : X → Y) (h : X → Z) → ((x : X) → g (f x) ≡ h x) → (xs : List X) → map g (map f xs) ≡ map h xs
map-map g f h same [] = refl
map-map g f h same (x ∷ xs) = rw (same x, map-map g f h same xs)
