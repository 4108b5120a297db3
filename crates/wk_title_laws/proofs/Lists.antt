-- Tests of each element of a list, through filters and cuts.
use Rattle.std.proofs.Common.{◌≡◌, ℕ, Bool, true, false, ◌&&◌, List, [], ◌∷◌, ◌++◌, filter, refl, ap, ◌∙◌, inl, inr}
use Rattle.std.proofs.lemmas.Bool.{cases_Bool, and_parts, and_from, cond-true, cond-false}
use Rattle.std.proofs.lemmas.List.Sums.{take_while-cons}
use Rattle.std.specs.List.{list_all, take_while}

module _ (p : ℕ → Bool) where
  pub passes_filter : (xs : List ℕ) → list_all p (filter p xs) ≡ true
  passes_filter [] = refl
  passes_filter (x ∷ xs) = elim (cases_Bool (p x)) [
    | inl passes ↦ rw passes (and_from _ _ passes (passes_filter xs))
    | inr fails ↦ rw fails (passes_filter xs)
  ]

  pub filter_all : (xs : List ℕ) → list_all p xs ≡ true → filter p xs ≡ xs
  filter_all [] all = refl
  filter_all (x ∷ xs) all = let parts = and_parts (p x) (list_all p xs) all in rw parts.0 (ap (λ l. x ∷ l) (filter_all xs parts.1))

  pub passes_take_while : (xs : List ℕ) → list_all p (take_while p xs) ≡ true
  passes_take_while [] = refl
  passes_take_while (x ∷ xs) = elim (cases_Bool (p x)) [
    | inl passes ↦ ap (list_all p) (take_while-cons p x xs ∙ cond-true _ _ _ passes) ∙ and_from _ _ passes (passes_take_while xs)
    | inr fails ↦ ap (list_all p) (take_while-cons p x xs ∙ cond-false _ _ _ fails)
  ]

  pub take_while_all : (xs : List ℕ) → list_all p xs ≡ true → take_while p xs ≡ xs
  take_while_all [] all = refl
  take_while_all (x ∷ xs) all =
      let parts = and_parts (p x) (list_all p xs) all in
      take_while-cons p x xs ∙ cond-true _ _ _ parts.0 ∙ ap (λ l. x ∷ l) (take_while_all xs parts.1)

  pub take_while_at : (xs : List ℕ) (y : ℕ) (ys : List ℕ) → list_all p xs ≡ true → p y ≡ false → take_while p (xs ++ y ∷ ys) ≡ xs
  take_while_at [] y ys all fails = take_while-cons p y ys ∙ cond-false _ _ _ fails
  take_while_at (x ∷ xs) y ys all fails =
      let parts = and_parts (p x) (list_all p xs) all in
      take_while-cons p x (xs ++ y ∷ ys) ∙ cond-true _ _ _ parts.0 ∙ ap (λ l. x ∷ l) (take_while_at xs y ys parts.1 fails)

  pub list_all-back : (xs ys : List ℕ) → list_all p (xs ++ ys) ≡ true → list_all p ys ≡ true
  list_all-back [] ys all = all
  list_all-back (x ∷ xs) ys all = list_all-back xs ys (and_parts (p x) (list_all p (xs ++ ys)) all).1

module _ (p q : ℕ → Bool) where
  pub kept_by_filter : (xs : List ℕ) → list_all q xs ≡ true → list_all q (filter p xs) ≡ true
  kept_by_filter [] all = refl
  kept_by_filter (x ∷ xs) all =
      let parts = and_parts (q x) (list_all q xs) all in
      elim (cases_Bool (p x)) [
        | inl passes ↦ rw passes (and_from _ _ parts.0 (kept_by_filter xs parts.1))
        | inr fails ↦ rw fails (kept_by_filter xs parts.1)
      ]

  pub list_all-both : (xs : List ℕ) → list_all p xs ≡ true → list_all q xs ≡ true → list_all (λ x. p x && q x) xs ≡ true
  list_all-both [] first second = refl
  list_all-both (x ∷ xs) first second =
      let a = and_parts (p x) (list_all p xs) first in
      let b = and_parts (q x) (list_all q xs) second in
      and_from _ _ (and_from _ _ a.0 b.0) (list_all-both xs a.1 b.1)

  pub list_all-weaker : ((x : ℕ) → p x ≡ true → q x ≡ true) → (xs : List ℕ) → list_all p xs ≡ true → list_all q xs ≡ true
  list_all-weaker h [] all = refl
  list_all-weaker h (x ∷ xs) all =
      let parts = and_parts (p x) (list_all p xs) all in and_from _ _ (h x parts.0) (list_all-weaker h xs parts.1)
