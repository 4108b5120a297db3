-- Texts without their newlines.
use Rattle.std.proofs.Common.{◌≡◌, ◌≢◌, ℕ, suc, ◌<◌, ◌≤◌, not, ◌==◌, List, [], ◌∷◌, ◌++◌, length, get_or, refl, ap, ◌∙◌, inl, inr, arith}
use Rattle.std.proofs.lemmas.Bool.{cases_Bool}
use Rattle.std.proofs.lemmas.Bool.Decides.{Decides-eqb}
use Rattle.std.proofs.lemmas.List.Elements.{filter-append}
use Rattle.wk_text_rules.specs.Marked.{all_plain, text_of}
use Rattle.wk_links.specs.Newlines.{without_newlines}

-- a text that has none stays
pub without_newlines-none : (text : List ℕ) → ((k : ℕ) → k < length text → get_or text k 0 ≢ 10) → without_newlines text ≡ text
without_newlines-none [] h = refl
without_newlines-none (b ∷ text) h = elim (cases_Bool (b == 10)) [
  | inl newline ↦ absurd (h 0 (omega arith) ((Decides-eqb b 10).0 newline))
  | inr other ↦ rw other (ap (λ xs. b ∷ xs) (without_newlines-none text (λ k less. h (suc k) (omega arith))))
]

-- a line, its newline, and what stands behind it
pub without_newlines-line : (text line behind : List ℕ) → text ≡ line ++ (10 ∷ behind) → ((k : ℕ) → k < length line → get_or line k 0 ≢ 10) → without_newlines text ≡ line ++ without_newlines behind
without_newlines-line text line behind e h =
    ap without_newlines e ∙ filter-append (λ b. not (b == 10)) line (10 ∷ behind) ∙ ap (λ xs. xs ++ without_newlines behind) (without_newlines-none line h)

pub length-without_newlines : (text : List ℕ) → length (without_newlines text) ≤ length text
length-without_newlines [] = omega arith
length-without_newlines (b ∷ text) = elim (cases_Bool (b == 10)) [
  | inl newline ↦ rw newline (omega (arith, length-without_newlines text))
  | inr other ↦ rw other (omega (arith, length-without_newlines text))
]

pub text_of-all_plain : (text : List ℕ) → text_of (all_plain text) ≡ text
text_of-all_plain [] = refl
text_of-all_plain (b ∷ text) = ap (λ xs. b ∷ xs) (text_of-all_plain text)
