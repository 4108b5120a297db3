-- Spaces for underscores, in characters and in their bytes.
use Rattle.std.proofs.Common.{◌≡◌, ℕ, ℤ, suc, ◌<◌, true, false, ◌==◌, List, [], ◌∷◌, ◌++◌, length, get_or, encode_utf8, refl, sym, ap, ◌∙◌, inl, inr, arith, eqb-true, append_assoc}
use Rattle.std.proofs.lemmas.Bool.{cases_Bool}
use Rattle.std.proofs.lemmas.List.{append-nil, map-append, length-map}
use Rattle.std.proofs.lemmas.Str.{encode_ascii, inside_one}
use Rattle.wk_text_rules.specs.Titles.{PageTitle, namespace_name, shown, with_spaces}
use Rattle.wk_title.specs.Shown.{with_space, shown_namespace}

keeps : (xs : List ℕ) → ((k : ℕ) → k < length xs → (get_or xs k 0 == 95) ≡ false) → with_spaces xs ≡ xs
keeps [] h = refl
keeps (x ∷ xs) h =
    let other = h 0 (omega arith) in
    rw other (ap (λ l. x ∷ l) (keeps xs (λ k within. h (suc k) (omega arith))))

-- a byte of a character is no underscore where the character is none
no_underscore_inside : (c k : ℕ) → (c == 95) ≡ false → k < length (encode_utf8 c) → (get_or (encode_utf8 c) k 0 == 95) ≡ false
no_underscore_inside c k other within = elim (cases_Bool (get_or (encode_utf8 c) k 0 == 95)) [
  | inl found ↦
      let byte : get_or (encode_utf8 c) k 0 ≡ 95 = eqb-true _ _ found in
      let same = inside_one c [] (encode_utf8 c) k (sym (append-nil (encode_utf8 c))) within (omega arith) in
      let underscore : c ≡ 95 = same ∙ byte in
      let clash : (95 == 95) ≡ false = rw underscore at other in
      cc
  | inr none ↦ none
]

pub with_spaces-encode : (c : ℕ) → with_spaces (encode_utf8 c) ≡ encode_utf8 (with_space c)
with_spaces-encode c = elim (cases_Bool (c == 95)) [
  | inl underscore ↦ let same : c ≡ 95 = eqb-true c 95 underscore in rw same (ap with_spaces (encode_ascii 95 (omega arith)) ∙ sym (encode_ascii 32 (omega arith)))
  | inr other ↦ rw other (keeps (encode_utf8 c) (λ k. no_underscore_inside c k other))
]

pub length-with_space : (c : ℕ) → length (encode_utf8 (with_space c)) ≡ length (encode_utf8 c)
length-with_space c = ap length (sym (with_spaces-encode c)) ∙ length-map (encode_utf8 c) _

-- one more character
pub with_spaces_step : (bytes : List ℕ) (c : ℕ) (rest : List ℕ) → (bytes ++ encode_utf8 (with_space c)) ++ with_spaces rest ≡ bytes ++ with_spaces (encode_utf8 c ++ rest)
with_spaces_step bytes c rest =
    append_assoc bytes (encode_utf8 (with_space c)) (with_spaces rest)
    ∙ ap (λ l. bytes ++ l) (ap (λ l. l ++ with_spaces rest) (sym (with_spaces-encode c)) ∙ sym (map-append _ (encode_utf8 c) rest))

pub shown_named : (ns : ℤ) (name : List ℕ) → name ≡ namespace_name ns → (length name == 0) ≡ false → shown_namespace ns ≡ name ++ 58 ∷ []
shown_named ns name e some =
    let known : (length (namespace_name ns) == 0) ≡ false = ap (λ l. length l == 0) (sym e) ∙ some in
    rw known (ap (λ l. l ++ 58 ∷ []) (sym e))

pub shown_main : (ns : ℤ) (name : List ℕ) → name ≡ namespace_name ns → (length name == 0) ≡ true → shown_namespace ns ≡ []
shown_main ns name e none =
    let known : (length (namespace_name ns) == 0) ≡ true = ap (λ l. length l == 0) (sym e) ∙ none in
    rw known refl

pub shown-parts : (title : PageTitle) → shown title ≡ shown_namespace title.ns ++ with_spaces title.key
unfolding shown
shown-parts title = refl

-- two pieces that are appended one after the other
pub appended : {a b c d z : List ℕ} (x y : List ℕ) → b ≡ a → c ≡ b ++ x → d ≡ c ++ y → z ≡ x ++ y → d ≡ a ++ z
appended {a} x y same first second whole =
    second ∙ ap (λ l. l ++ y) (first ∙ ap (λ l. l ++ x) same) ∙ append_assoc a x y ∙ ap (λ l. a ++ l) (sym whole)
