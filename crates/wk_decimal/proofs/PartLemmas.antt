-- A text round its first byte of a kind.
use Rattle.std.proofs.Common.{◌≡◌, ℕ, suc, ◌+◌, ◌≤◌, Bool, List, [], ◌∷◌, length, nat_lt, Option, refl, sym, ◌∙◌, inl, inr, arith, lt-ltb, take_all}
use Rattle.std.specs.List.{list_any, position, position_or_len, before_first}
use Rattle.std.proofs.lemmas.Bool.{cases_Bool}
use Rattle.std.proofs.lemmas.Bool.Decides.{nat_tests}
use Rattle.wk_text_rules.specs.Numerals.{behind_first}
use Rattle.wk_decimal.specs.Parts.{IsPlaceIn, SplitsAt}

nat_lt-suc : (a b : ℕ) → nat_lt (1 + a) (suc b) ≡ nat_lt a b
nat_lt-suc a b = grind (arith, nat_tests)

-- some byte passes exactly where the first that passes is within the text
list_any-by_position : (p : ℕ → Bool) (xs : List ℕ) → list_any p xs ≡ nat_lt (position_or_len p xs) (length xs)
list_any-by_position p [] = refl
list_any-by_position p (x ∷ xs) = elim (cases_Bool (p x)) [
  | inl passes ↦ rw passes (sym (lt-ltb 0 (length (x ∷ xs)) (omega arith)))
  | inr fails ↦ rw fails (list_any-by_position p xs ∙ sym (nat_lt-suc (position_or_len p xs) (length xs)))
]

-- the place of the first byte that passes is a place of the text
pub position_is_place : (p : ℕ → Bool) (xs : List ℕ) → IsPlaceIn xs (position p xs)
position_is_place p xs = elim (cases_Bool (nat_lt (position_or_len p xs) (length xs))) [
  | inl within ↦ rw within (grind (arith, nat_tests))
  | inr outside ↦ rw outside tt
]

-- a text that is split at the first byte that passes
pub splits_at_first : (p : ℕ → Bool) (xs front : List ℕ) (back : Option (List ℕ)) → SplitsAt xs (position p xs) front back → (front ≡ before_first p xs) × (back ≡ behind_first p xs)
splits_at_first p xs front back h = elim (cases_Bool (nat_lt (position_or_len p xs) (length xs))) [
  | inl within ↦
      let parts = rw within at h in
      (parts.0, rw (list_any-by_position p xs, within) parts.1)
  | inr outside ↦
      let parts = rw outside at h in
      let past : length xs ≤ position_or_len p xs = grind (arith, nat_tests) in
      (parts.0 ∙ sym (take_all _ _ past), rw (list_any-by_position p xs, outside) parts.1)
]
