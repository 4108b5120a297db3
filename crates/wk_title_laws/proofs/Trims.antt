-- The underscores at the end of a text.
use Rattle.std.proofs.Common.{◌≡◌, ℕ, suc, ◌+◌, ◌-◌, ◌⊎◌, true, false, cond, ◌==◌, List, [], ◌∷◌, length, take, reverse, refl, sym, ap, ◌∙◌, inl, inr, arith, eqb-true}
use Rattle.std.proofs.lemmas.Bool.{cases_Bool, and_parts, and_from, cond-true, cond-false}
use Rattle.std.proofs.lemmas.List.{reverse-append, length-reverse}
use Rattle.std.proofs.lemmas.List.Folds.{prefix_len-append}
use Rattle.std.proofs.lemmas.List.Sums.{suffix_len-le-length}
use Rattle.std.specs.Char.{is_ascii}
use Rattle.std.specs.List.{list_all, prefix_len, suffix_len}
use Rattle.wk_text_rules.specs.Titles.{is_underscore, without_trailing_underscores}

-- how many underscores end the text
abbrev ending : List ℕ → ℕ
ending cs = suffix_len is_underscore cs

ending-cons : (c : ℕ) (cs : List ℕ) → ending (c ∷ cs) ≡ cond (ending cs == length (reverse cs)) (length (reverse cs) + prefix_len is_underscore (c ∷ [])) (ending cs)
ending-cons c cs = ap (prefix_len is_underscore) (reverse-append (c ∷ []) cs) ∙ prefix_len-append is_underscore (reverse cs) (c ∷ [])

stays : (c : ℕ) (cs : List ℕ) → ending (c ∷ cs) ≡ ending cs → without_trailing_underscores (c ∷ cs) ≡ c ∷ without_trailing_underscores cs
stays c cs same =
    let fits = suffix_len-le-length is_underscore cs in
    let count : length (c ∷ cs) - ending (c ∷ cs) ≡ suc (length cs - ending cs) = omega arith in
    ap (λ n. take n (c ∷ cs)) count

-- a character in front stays, unless the whole text is underscores
pub without_trailing-cons : (c : ℕ) (cs : List ℕ) → (without_trailing_underscores (c ∷ cs) ≡ c ∷ without_trailing_underscores cs) ⊎ ((is_underscore c ≡ true) × (without_trailing_underscores cs ≡ []))
without_trailing-cons c cs = elim (cases_Bool (ending cs == length (reverse cs))) [
  | inr more ↦ inl (stays c cs (ending-cons c cs ∙ cond-false _ _ _ more))
  | inl all ↦
      let whole : ending cs ≡ length (reverse cs) = eqb-true _ _ all in
      let whole_length : ending cs ≡ length cs = whole ∙ length-reverse cs in
      elim (cases_Bool (is_underscore c)) [
        | inl underscore ↦
            let nothing : length cs - ending cs ≡ 0 = omega arith in
            inr (underscore, ap (λ n. take n cs) nothing)
        | inr other ↦
            let alone : prefix_len is_underscore (c ∷ []) ≡ 0 = rw other refl in
            inl (stays c cs (ending-cons c cs ∙ cond-true _ _ _ all ∙ omega arith))
      ]
]

pub without_trailing-kept : (c : ℕ) (cs : List ℕ) → is_underscore c ≡ false → without_trailing_underscores (c ∷ cs) ≡ c ∷ without_trailing_underscores cs
without_trailing-kept c cs other = elim (without_trailing-cons c cs) [
  | inl kept ↦ kept
  | inr gone ↦ let clash = sym other ∙ gone.0 in cc
]

-- underscores are of ASCII
pub ascii-without_trailing : (cs : List ℕ) → list_all is_ascii (without_trailing_underscores cs) ≡ true → list_all is_ascii cs ≡ true
ascii-without_trailing [] all = refl
ascii-without_trailing (c ∷ cs) all = elim (without_trailing-cons c cs) [
  | inl kept ↦
      let parts = and_parts (is_ascii c) (list_all is_ascii (without_trailing_underscores cs)) (ap (list_all is_ascii) (sym kept) ∙ all) in
      and_from _ _ parts.0 (ascii-without_trailing cs parts.1)
  | inr gone ↦
      let first : is_ascii c ≡ true = ap is_ascii (eqb-true c 95 gone.0) in
      and_from _ _ first (ascii-without_trailing cs (ap (list_all is_ascii) gone.1))
]
