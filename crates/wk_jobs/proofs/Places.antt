-- Where an item that passes a test stands, against whether there is one.
use Rattle.std.proofs.Common.{◌≡◌, ℕ, suc, ◌+◌, Bool, true, false, ltb, List, [], ◌∷◌, length, Some, None, refl, sym, ap, ◌∙◌, inl, inr, arith}
use Rattle.std.specs.Prelude.{is_some}
use Rattle.std.specs.List.{list_any, position, position_or_len}
use Rattle.std.proofs.lemmas.Bool.{cases_Bool}
use Rattle.std.proofs.lemmas.Bool.Decides.{nat_tests}

less-suc : (m n : ℕ) → ltb (1 + m) (suc n) ≡ ltb m n
less-suc m n = grind (arith, nat_tests)

none-below : (n : ℕ) → ltb 0 (suc n) ≡ true
none-below n = grind (arith, nat_tests)

module _ {X : Type 0} (p : X → Bool) where
  within-is : (xs : List X) → ltb (position_or_len p xs) (length xs) ≡ list_any p xs
  within-is [] = refl
  within-is (x ∷ xs) = elim (cases_Bool (p x)) [
    | inl here ↦ rw here (none-below (length xs))
    | inr later ↦ rw later (less-suc (position_or_len p xs) (length xs) ∙ within-is xs)
  ]

  pub position-there : (xs : List X) → is_some (position p xs) ≡ list_any p xs
  position-there xs = elim (cases_Bool (list_any p xs)) [
    | inl there ↦ rw (within-is xs, there) refl
    | inr none ↦ rw (within-is xs, none) refl
  ]

  pub position-absent : (xs : List X) → None ≡ position p xs → list_any p xs ≡ false
  position-absent xs none = sym (position-there xs) ∙ ap is_some (sym none)

  pub position-found : (xs : List X) (k : ℕ) → Some k ≡ position p xs → list_any p xs ≡ true
  position-found xs k found = sym (position-there xs) ∙ ap is_some (sym found)
