-- The first item that passes a test: its place, and lists in which it is changed or taken away.
use Rattle.std.proofs.Common.{◌≡◌, ℕ, zero, suc, ◌+◌, ◌<◌, ◌≤◌, Bool, true, false, cond, ltb, List, [], ◌∷◌, length, get_or, set, Option, Some, None, option_map, refl, sym, ap, ◌∙◌, inl, inr, arith}
use Rattle.std.specs.List.{position, position_or_len, remove}
use Rattle.std.proofs.lemmas.Bool.{cases_Bool, cases_lt, lt-ltb}
use Rattle.std.proofs.lemmas.Bool.Decides.{nat_tests}
use Rattle.std.proofs.lemmas.List.Sums.{position_or_len_is}
use Rattle.wk_table_rows.proofs.RisingLaws.{position-first}

not-below : (m n : ℕ) → n ≤ m → ltb m n ≡ false
not-below m n h = grind (arith, nat_tests)

module _ {X : Type 0} (p : X → Bool) where
  pub position-here : (x : X) (xs : List X) → p x ≡ true → position p (x ∷ xs) ≡ Some 0
  position-here x xs here = sym (position-first p (x ∷ xs) 0 x (omega arith) (λ j l. absurd (omega arith)) here)

  pub position-later : (x : X) (xs : List X) → p x ≡ false → position p (x ∷ xs) ≡ option_map (λ place. suc place) (position p xs)
  position-later x xs later = elim (cases_lt (position_or_len p xs) (length xs)) [
    | inl inside ↦ rw (later, lt-ltb (position_or_len p xs) (length xs) inside, lt-ltb (1 + position_or_len p xs) (suc (length xs)) (omega arith)) (ap Some (omega arith))
    | inr past ↦ rw (later, not-below (position_or_len p xs) (length xs) past, not-below (1 + position_or_len p xs) (suc (length xs)) (omega arith)) refl
  ]

  -- the list with y in the place of the first that passes
  abbrev pub replaced : List X → X → List X
  replaced xs y = elim (position p xs) [ None ↦ xs | Some place ↦ set xs place y ]

  -- the list without the first that passes
  abbrev pub without_first : List X → List X
  without_first xs = elim (position p xs) [ None ↦ xs | Some place ↦ remove xs place ]

  pub replaced-here : (x : X) (xs : List X) (y : X) → p x ≡ true → replaced (x ∷ xs) y ≡ y ∷ xs
  replaced-here x xs y here = ap (λ (o : Option ℕ). elim o as (λ t. List X) [ None ↦ x ∷ xs | Some place ↦ set (x ∷ xs) place y ]) (position-here x xs here)

  pub replaced-later : (x : X) (xs : List X) (y : X) → p x ≡ false → replaced (x ∷ xs) y ≡ x ∷ replaced xs y
  replaced-later x xs y later = ap (λ (o : Option ℕ). elim o as (λ t. List X) [ None ↦ x ∷ xs | Some place ↦ set (x ∷ xs) place y ]) (position-later x xs later) ∙ go (position p xs)
    where
      go : (o : Option ℕ) → (elim (option_map (λ place. suc place) o) as (λ t. List X) [ None ↦ x ∷ xs | Some place ↦ set (x ∷ xs) place y ]) ≡ x ∷ (elim o as (λ t. List X) [ None ↦ xs | Some place ↦ set (xs) place y ])
      go None = refl
      go (Some place) = refl

  pub without_first-here : (x : X) (xs : List X) → p x ≡ true → without_first (x ∷ xs) ≡ xs
  without_first-here x xs here = ap (λ (o : Option ℕ). elim o as (λ t. List X) [ None ↦ x ∷ xs | Some place ↦ remove (x ∷ xs) place ]) (position-here x xs here)

  pub without_first-later : (x : X) (xs : List X) → p x ≡ false → without_first (x ∷ xs) ≡ x ∷ without_first xs
  without_first-later x xs later = ap (λ (o : Option ℕ). elim o as (λ t. List X) [ None ↦ x ∷ xs | Some place ↦ remove (x ∷ xs) place ]) (position-later x xs later) ∙ go (position p xs)
    where
      go : (o : Option ℕ) → (elim (option_map (λ place. suc place) o) as (λ t. List X) [ None ↦ x ∷ xs | Some place ↦ remove (x ∷ xs) place ]) ≡ x ∷ (elim o as (λ t. List X) [ None ↦ xs | Some place ↦ remove (xs) place ])
      go None = refl
      go (Some place) = refl

  none-before : (o : Option ℕ) → option_map (λ place. suc place) o ≡ None → o ≡ None
  none-before None none = refl
  none-before (Some place) none = absurd cc

  -- no item passes
  pub position-none-head : (x : X) (xs : List X) → position p (x ∷ xs) ≡ None → (p x ≡ false) × (position p xs ≡ None)
  position-none-head x xs none = elim (cases_Bool (p x)) [
    | inl here ↦ absurd (let found : Some 0 ≡ None = sym (position-here x xs here) ∙ none in cc)
    | inr later ↦ (later, none-before (position p xs) (sym (position-later x xs later) ∙ none))
  ]

  -- where no item passes nothing is changed or taken away
  pub replaced-none : (xs : List X) (y : X) → position p xs ≡ None → replaced xs y ≡ xs
  replaced-none xs y none = ap (λ (o : Option ℕ). elim o as (λ t. List X) [ None ↦ xs | Some place ↦ set (xs) place y ]) none

  pub without_first-none : (xs : List X) → position p xs ≡ None → without_first xs ≡ xs
  without_first-none xs none = ap (λ (o : Option ℕ). elim o as (λ t. List X) [ None ↦ xs | Some place ↦ remove (xs) place ]) none

  pub position-None : (xs : List X) → position p xs ≡ None → (k : ℕ) (d : X) → k < length xs → p (get_or xs k d) ≡ false
  position-None [] none k d inside = absurd (omega arith)
  position-None (x ∷ xs) none zero d inside = (position-none-head x xs none).0
  position-None (x ∷ xs) none (suc k) d inside = position-None xs (position-none-head x xs none).1 k d (omega arith)

  some-of : (n m k : ℕ) → Some k ≡ cond (ltb n m) (Some n) None → k ≡ n
  some-of n m k found = elim (cases_lt n m) [
    | inl inside ↦ (let e : Some k ≡ Some n = rw (lt-ltb n m inside) at found in cc)
    | inr past ↦ absurd (let e : Some k ≡ None = rw (not-below n m past) at found in cc)
  ]

  pub place-Some : (xs : List X) (k : ℕ) → Some k ≡ position p xs → k ≡ position_or_len p xs
  place-Some xs k found = some-of (position_or_len p xs) (length xs) k found

  pub place-None : (xs : List X) → None ≡ position p xs → length xs ≡ position_or_len p xs
  place-None [] none = refl
  place-None (x ∷ xs) none =
      sym (position_or_len_is p (x ∷ xs) (length (x ∷ xs)) x (omega arith) (λ k l. position-None (x ∷ xs) (sym none) k x l) (λ l. absurd (omega arith)))
