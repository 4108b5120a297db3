-- Keys with spaces for their underscores.
use Rattle.std.proofs.Common.{◌≡◌, ◌≢◌, ℕ, suc, ◌<◌, ◌==◌, List, [], ◌∷◌, ◌++◌, length, get_or, refl, ap, ◌∙◌, inl, inr, arith}
use Rattle.std.proofs.lemmas.Bool.{cases_Bool}
use Rattle.std.proofs.lemmas.Bool.Decides.{Decides-eqb}
use Rattle.std.proofs.lemmas.List.{map-append}
use Rattle.wk_text_rules.specs.Titles.{with_spaces}

-- a word without underscores stays
pub with_spaces-word : (word : List ℕ) → ((k : ℕ) → k < length word → get_or word k 0 ≢ 95) → with_spaces word ≡ word
with_spaces-word [] none = refl
with_spaces-word (b ∷ word) none = elim (cases_Bool (b == 95)) [
  | inl underscore ↦ absurd (none 0 (omega arith) ((Decides-eqb b 95).0 underscore))
  | inr other ↦ rw other (ap (λ xs. b ∷ xs) (with_spaces-word word (λ k less. none (suc k) (omega arith))))
]

-- a word, its underscore, and what stands behind it
pub with_spaces-behind : (key word behind : List ℕ) → key ≡ word ++ (95 ∷ behind) → ((k : ℕ) → k < length word → get_or word k 0 ≢ 95) → with_spaces key ≡ word ++ (32 ∷ with_spaces behind)
with_spaces-behind key word behind e none =
    ap with_spaces e ∙ map-append _ word (95 ∷ behind) ∙ ap (λ xs. xs ++ (32 ∷ with_spaces behind)) (with_spaces-word word none)
