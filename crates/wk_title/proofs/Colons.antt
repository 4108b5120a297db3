-- The first colon of a text.
use Rattle.std.proofs.Common.{◌≡◌, ℕ, suc, ◌-◌, ◌+◌, Bool, false, List, [], ◌∷◌, length, take, drop, nat_lt, Some, None, refl, sym, ap, ◌∙◌, inl, inr, arith, lt-ltb, take_all, length-drop}
use Rattle.std.proofs.lemmas.Bool.{cases_Bool}
use Rattle.std.proofs.lemmas.Bool.Decides.{nat_tests}
use Rattle.std.specs.List.{list_any, position, position_or_len}
use Rattle.wk_text_rules.specs.Titles.{is_colon}
use Rattle.wk_title.specs.Colons.{IsSplitAtColon}

nat_lt-suc : (a b : ℕ) → nat_lt (1 + a) (suc b) ≡ nat_lt a b
nat_lt-suc a b = grind (arith, nat_tests)

-- some element passes exactly where the first that passes is within the list
pub list_any-by_position : (p : ℕ → Bool) (xs : List ℕ) → list_any p xs ≡ nat_lt (position_or_len p xs) (length xs)
list_any-by_position p [] = refl
list_any-by_position p (x ∷ xs) = elim (cases_Bool (p x)) [
  | inl passes ↦ rw passes (sym (lt-ltb 0 (length (x ∷ xs)) (omega arith)))
  | inr fails ↦ rw fails (list_any-by_position p xs ∙ sym (nat_lt-suc (position_or_len p xs) (length xs)))
]

pub no_colon : (cs : List ℕ) → position is_colon cs ≡ None → list_any is_colon cs ≡ false
no_colon cs h = elim (cases_Bool (list_any is_colon cs)) [
  | inl some ↦ let within = sym (list_any-by_position is_colon cs) ∙ some in let clash : Some (position_or_len is_colon cs) ≡ None = rw within at h in cc
  | inr none ↦ none
]

pub split_at : (cs : List ℕ) (i : ℕ) → position is_colon cs ≡ Some i → IsSplitAtColon cs (take i cs) (take (length cs - (i + 1)) (drop (i + 1) cs))
split_at cs i h = elim (cases_Bool (list_any is_colon cs)) [
  | inl some ↦
      let within = sym (list_any-by_position is_colon cs) ∙ some in
      let here : Some (position_or_len is_colon cs) ≡ Some i = rw within at h in
      let same : i ≡ position_or_len is_colon cs = cc in
      record {
        has_colon = some;
        before_is = ap (λ k. take k cs) same;
        after_is = take_all _ _ (omega (arith, length-drop {A = ℕ})) ∙ ap (λ k. drop (k + 1) cs) same;
      }
  | inr none ↦
      let outside = sym (list_any-by_position is_colon cs) ∙ none in
      let clash : None ≡ Some i = rw outside at h in
      cc
]
