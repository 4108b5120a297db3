-- Texts in Normalization Form C, cut and joined where a character parts them.
use Rattle.std.proofs.Common.{◌≡◌, ℕ, Bool, true, false, not, ◌==◌, List, [], ◌∷◌, ◌++◌, refl, sym, ap, ap₂, subst, ◌∙◌, inl, inr, append_assoc, eqb-true, eq-eqb}
use Rattle.std.proofs.lemmas.Bool.{cases_Bool, and_parts, and_from, not-true, not-false, not_from_false, or_cases, false_from_ne_true}
use Rattle.std.proofs.lemmas.List.{append-nil}
use Rattle.std.specs.List.{list_all}
use Rattle.ucd_normal.specs.declared.forms.Form.TheVariants.{Nfc}
use Rattle.unicode_normalization.specs.Forms.{nfc}
use Rattle.unicode_normalization.proofs.ComposeLemmas.{list_all-push}
use Rattle.unicode_normalization.proofs.FormsLemmas.{normalize-nil}
use Rattle.wk_text_rules.specs.Titles.{with_spaces, squeezed}
use Rattle.wk_title.proofs.Squeeze.{is_space, squeezed_from, squeezed-from_start}
use Rattle.wk_title_laws.proofs.Tables.{is_special}
use Rattle.wk_title_laws.proofs.Kept.{nfc_keeps, Parts, parts_space, parts_underscore, nfc-parted}

abbrev pub IsFixed : List ℕ → Type 0
IsFixed cs = nfc cs ≡ cs

abbrev pub lacks : ℕ → List ℕ → Bool
lacks x cs = list_all (λ c. not (c == x)) cs

-- no space and no underscore
abbrev pub lacks_spaces : List ℕ → Bool
lacks_spaces cs = list_all (λ c. not (is_space c)) cs

pub fixed-nil : IsFixed []
fixed-nil = normalize-nil Nfc

only_special : (x : ℕ) → Parts x → (c : ℕ) → not (c == x) ≡ false → is_special c ≡ true
only_special x parts c same = ap is_special (eqb-true c x (not-false _ same)) ∙ parts.special

pub nfc_lacks : (x : ℕ) → Parts x → (cs : List ℕ) → lacks x cs ≡ true → lacks x (nfc cs) ≡ true
nfc_lacks x parts = nfc_keeps (λ c. not (c == x)) (only_special x parts)

differs : (x c : ℕ) (cs : List ℕ) → lacks x (c ∷ cs) ≡ true → (c == x) ≡ false
differs x c cs h = not-true _ (and_parts (not (c == x)) (lacks x cs) h).0

lacks-rest : (x c : ℕ) (cs : List ℕ) → lacks x (c ∷ cs) ≡ true → lacks x cs ≡ true
lacks-rest x c cs h = (and_parts (not (c == x)) (lacks x cs) h).1

-- there is one way to cut at the first x
same_cut : (x : ℕ) (xs bs cs ds : List ℕ) → lacks x xs ≡ true → lacks x bs ≡ true → xs ++ x ∷ cs ≡ bs ++ x ∷ ds → (xs ≡ bs) × (cs ≡ ds)
same_cut x [] [] cs ds first second e = (refl, cc)
same_cut x [] (b ∷ bs) cs ds first second e =
    let same : b ≡ x = cc in let clash = sym (differs x b bs second) ∙ eq-eqb b x same in cc
same_cut x (a ∷ xs) [] cs ds first second e =
    let same : a ≡ x = cc in let clash = sym (differs x a xs first) ∙ eq-eqb a x same in cc
same_cut x (a ∷ xs) (b ∷ bs) cs ds first second e =
    let heads : a ≡ b = cc in
    let tails : xs ++ x ∷ cs ≡ bs ++ x ∷ ds = cc in
    let rest = same_cut x xs bs cs ds (lacks-rest x a xs first) (lacks-rest x b bs second) tails in
    (ap₂ (λ u v. u ∷ v) heads rest.0, rest.1)

pub fixed_cut : (x : ℕ) → Parts x → (xs ys : List ℕ) → lacks x xs ≡ true → IsFixed (xs ++ x ∷ ys) → IsFixed xs × IsFixed ys
fixed_cut x parts xs ys without fixed =
    same_cut x (nfc xs) xs (nfc ys) ys (nfc_lacks x parts xs without) without (sym (nfc-parted x parts xs ys) ∙ fixed)

pub fixed_join : (x : ℕ) → Parts x → (xs ys : List ℕ) → IsFixed xs → IsFixed ys → IsFixed (xs ++ x ∷ ys)
fixed_join x parts xs ys front back = nfc-parted x parts xs ys ∙ ap₂ (λ u v. u ++ x ∷ v) front back

-- ---- spaces for underscores

fixed-with_spaces_from : (pre cs : List ℕ) → lacks 95 pre ≡ true → IsFixed (pre ++ cs) → IsFixed (pre ++ with_spaces cs)
fixed-with_spaces_from pre [] without fixed = fixed
fixed-with_spaces_from pre (c ∷ cs) without fixed = elim (cases_Bool (c == 95)) [
  | inl underscore ↦
      let at : IsFixed (pre ++ 95 ∷ cs) = subst (λ x. IsFixed (pre ++ x ∷ cs)) (eqb-true c 95 underscore) fixed in
      let parts = fixed_cut 95 parts_underscore pre cs without at in
      rw underscore (fixed_join 32 parts_space pre (with_spaces cs) parts.0 (fixed-with_spaces_from [] cs refl parts.1))
  | inr other ↦
      let longer = subst IsFixed (sym (append_assoc pre (c ∷ []) cs)) fixed in
      rw other (
      subst IsFixed (append_assoc pre (c ∷ []) (with_spaces cs))
      (fixed-with_spaces_from (pre ++ c ∷ []) cs (list_all-push _ pre c without (not_from_false _ other)) longer)
      )
]

pub fixed-with_spaces : (cs : List ℕ) → IsFixed cs → IsFixed (with_spaces cs)
fixed-with_spaces cs fixed = fixed-with_spaces_from [] cs refl fixed

-- ---- squeezing

parts_of : (c : ℕ) → is_space c ≡ true → Parts c
parts_of c space = elim (or_cases (c == 32) (c == 95) space) [
  | inl blank ↦ subst Parts (sym (eqb-true c 32 blank)) parts_space
  | inr underscore ↦ subst Parts (sym (eqb-true c 95 underscore)) parts_underscore
]

pub lacks_from : (c : ℕ) (cs : List ℕ) → is_space c ≡ true → lacks_spaces cs ≡ true → lacks c cs ≡ true
lacks_from c [] space all = refl
lacks_from c (d ∷ ds) space all =
    let parts = and_parts (not (is_space d)) (lacks_spaces ds) all in
    let apart = false_from_ne_true (d == c) (λ same. let clash = sym (not-true _ parts.0) ∙ ap is_space (eqb-true d c same) ∙ space in cc) in
    and_from _ _ (not_from_false _ apart) (lacks_from c ds space parts.1)

record SqueezesFixed (cs : List ℕ) : Type 0 where
  within : (pre : List ℕ) → lacks_spaces pre ≡ true → IsFixed (pre ++ cs) → IsFixed (pre ++ squeezed_from true false cs)
  between : (pre : List ℕ) → IsFixed pre → IsFixed cs → IsFixed (pre ++ squeezed_from true true cs)
  start : (after_space : Bool) → IsFixed cs → IsFixed (squeezed_from false after_space cs)

squeezes-space : (c : ℕ) (cs : List ℕ) → is_space c ≡ true → SqueezesFixed cs → SqueezesFixed (c ∷ cs)
squeezes-space c cs space later =
    let parts = parts_of c space in
    record {
      within = λ pre without fixed.
          let cut = fixed_cut c parts pre cs (lacks_from c pre space without) fixed in rw space (later.between pre cut.0 cut.1);
      between = λ pre front fixed. rw space (later.between pre front (fixed_cut c parts [] cs refl fixed).1);
      start = λ after_space fixed. rw space (later.start true (fixed_cut c parts [] cs refl fixed).1);
    }

squeezes-other : (c : ℕ) (cs : List ℕ) → is_space c ≡ false → SqueezesFixed cs → SqueezesFixed (c ∷ cs)
squeezes-other c cs other later =
    let one : lacks_spaces (c ∷ []) ≡ true = and_from _ _ (not_from_false _ other) refl in
    let word = λ (fixed : IsFixed (c ∷ cs)). later.within (c ∷ []) one fixed in
    record {
      within = λ pre without fixed.
          let longer = subst IsFixed (sym (append_assoc pre (c ∷ []) cs)) fixed in
          let kept = list_all-push (λ d. not (is_space d)) pre c without (not_from_false _ other) in
          rw other (subst IsFixed (append_assoc pre (c ∷ []) (squeezed_from true false cs)) (later.within (pre ++ c ∷ []) kept longer));
      between = λ pre front fixed. rw other (fixed_join 95 parts_underscore pre (c ∷ squeezed_from true false cs) front (word fixed));
      start = elim [ true ↦ λ fixed. rw other (word fixed) | false ↦ λ fixed. rw other (word fixed) ];
    }

squeezes_fixed : (cs : List ℕ) → SqueezesFixed cs
squeezes_fixed [] =
    record {
      within = λ pre without fixed. fixed;
      between = λ pre front fixed. subst IsFixed (sym (append-nil pre)) front;
      start = λ after_space fixed. fixed;
    }
squeezes_fixed (c ∷ cs) = elim (cases_Bool (is_space c)) [
  | inl space ↦ squeezes-space c cs space (squeezes_fixed cs)
  | inr other ↦ squeezes-other c cs other (squeezes_fixed cs)
]

pub fixed-squeezed : (cs : List ℕ) → IsFixed cs → IsFixed (squeezed cs)
fixed-squeezed cs fixed = subst IsFixed (sym (squeezed-from_start cs)) ((squeezes_fixed cs).start false fixed)
