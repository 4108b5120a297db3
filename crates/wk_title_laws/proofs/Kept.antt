-- What Normalization Form C keeps: no special character comes from another one, and space, colon and underscore
-- part a text.
use Rattle.std.proofs.Common.{◌≡◌, ℕ, ◌+◌, ◌-◌, ◌/◌, ◌%◌, ◌<◌, ◌≤◌, ◌⊎◌, Bool, true, false, not, ◌&&◌, nat_lt, List, [], ◌∷◌, ◌++◌, Some, None, refl, subst, sym, ap, ◌∙◌, arith, inl, inr}
use Rattle.std.proofs.lemmas.Bool.{cases_Bool, cases_eq, and_parts, and_from, not-true, not_from_false, true_from_ne_false}
use Rattle.std.proofs.lemmas.Bool.Decides.{nat_tests}
use Rattle.std.specs.List.{list_all}
use Rattle.ucd_normal.specs.declared.forms.Form.TheVariants.{Nfd, Nfc}
use Rattle.ucd_normal.specs.CanonicalCombiningClass.{canonical_combining_class as ccc}
use Rattle.ucd_normal.specs.Composition.{paired_with}
use Rattle.ucd_normal.specs.Compositions.{compositions}
use Rattle.ucd_normal.specs.Decomposition.{decomposition}
use Rattle.ucd_normal.proofs.CompositionLemmas.{is_empty, composite-paired_with}
use Rattle.unicode_normalization.specs.Compose.{primary_composite, compose_after, compose}
use Rattle.unicode_normalization.specs.Decompose.{decompose}
use Rattle.unicode_normalization.specs.Forms.{decomposed, nfc}
use Rattle.unicode_normalization.specs.Hangul.{is_syllable, compose_hangul}
use Rattle.unicode_normalization.proofs.ComposeLemmas.{cases_Option, compose_after-nil, compose_after-cases, compose-starter}
use Rattle.unicode_normalization.proofs.DecomposeLemmas.{decompose-syllable, decompose-mapped, decompose-final, primary_composite-table, primary_composite-some}
use Rattle.unicode_normalization.proofs.FormsLemmas.{normalize-Nfc, normalize-ascii_boundary, decomposed-passing, is_final-Nfd, class-latin, quick_check-ascii}
use Rattle.unicode_normalization.proofs.HangulLemmas.{is_syllable-true, decompose_hangul-two, decompose_hangul-three, compose_hangul-some}
use Rattle.unicode_normalization.proofs.KeptLemmas.{list_all-normalize, nfc-alone}
use Rattle.unicode_normalization.proofs.TableFacts.{by_rows, pick, full, is_final}
use Rattle.wk_title_laws.proofs.Tables.{is_special, decomposes_apart, pairs_of_space, pairs_of_colon, pairs_of_underscore}

-- ---- characters far from the special ones

not_special_jamo : (x : ℕ) → 0x1100 ≤ x → x < 0x1200 → is_special x ≡ false
not_special_jamo x low high = grind (arith, nat_tests)

not_special_high : (x : ℕ) → 0xAC00 ≤ x → is_special x ≡ false
not_special_high x low = grind (arith, nat_tests)

record IsApart (c : ℕ) : Type 0 where
  no_ascii : nat_lt c 128 ≡ false
  not_special : is_special c ≡ false
  avoids : list_all (λ x. not (is_special x)) (full by_rows Nfd c) ≡ true

apart : (c : ℕ) → is_empty (pick Nfd (decomposition c)) ≡ false → IsApart c
apart c some =
    let parts = and_parts (not (nat_lt c 128) && not (is_special c)) _ (decomposes_apart c some) in
    let front = and_parts (not (nat_lt c 128)) (not (is_special c)) parts.0 in
    record { no_ascii = not-true _ front.0; not_special = not-true _ front.1; avoids = parts.1 }

-- a composite is neither of ASCII nor special
record IsHigh (c : ℕ) : Type 0 where
  high : 128 ≤ c
  not_special : is_special c ≡ false

high_composite : (a b c : ℕ) → primary_composite a b ≡ Some c → IsHigh c
high_composite a b c h =
    elim (primary_composite-some a b c h) [
      | inl hangul ↦
          elim hangul [
            | inl lv ↦ record { high = omega arith; not_special = not_special_high c (omega arith) }
            | inr lvt ↦ record { high = omega arith; not_special = not_special_high c (omega arith) }
          ]
      | inr table ↦
          let r = apart c (ap is_empty table.mapping) in
          let low = r.no_ascii in
          record { high = grind (arith, nat_tests); not_special = r.not_special }
    ]

-- ---- a test that only special characters fail is kept

module _ (q : ℕ → Bool) (fails : (x : ℕ) → q x ≡ false → is_special x ≡ true) where
  passes_other : (x : ℕ) → is_special x ≡ false → q x ≡ true
  passes_other x other = true_from_ne_false (q x) (λ failed. let special = fails x failed in cc)

  passes_others : (xs : List ℕ) → list_all (λ x. not (is_special x)) xs ≡ true → list_all q xs ≡ true
  passes_others [] all = refl
  passes_others (x ∷ xs) all =
      let parts = and_parts (not (is_special x)) (list_all (λ y. not (is_special y)) xs) all in
      and_from _ _ (passes_other x (not-true _ parts.0)) (passes_others xs parts.1)

  passes_jamo : (x : ℕ) → 0x1100 ≤ x → x < 0x1200 → q x ≡ true
  passes_jamo x low high = passes_other x (not_special_jamo x low high)

  kept-decompose : (c : ℕ) → q c ≡ true → list_all q (decompose Nfc c) ≡ true
  kept-decompose c h =
      elim (cases_Bool (is_syllable c)) [
        | inl syllable ↦
            let range = is_syllable-true c syllable in
            let l = passes_jamo (0x1100 + (c - 0xAC00) / 588) (omega arith) (omega arith) in
            let v = passes_jamo (0x1161 + (c - 0xAC00) % 588 / 28) (omega arith) (omega arith) in
            let t = passes_jamo (0x11A7 + (c - 0xAC00) % 28) (omega arith) (omega arith) in
            ap (list_all q) (decompose-syllable Nfc c syllable)
            ∙ elim (cases_eq ((c - 0xAC00) % 28) 0) [
              | inl two ↦ ap (list_all q) (decompose_hangul-two c two) ∙ and_from _ _ l (and_from _ _ v refl)
              | inr three ↦ ap (list_all q) (decompose_hangul-three c three) ∙ and_from _ _ l (and_from _ _ v (and_from _ _ t refl))
            ]
        | inr other ↦
            elim (cases_Bool (is_empty (pick Nfc (decomposition c)))) [
              | inl none ↦ ap (list_all q) (decompose-final Nfc c (and_from _ _ none (not_from_false _ other))) ∙ and_from _ _ h refl
              | inr some ↦ ap (list_all q) (decompose-mapped Nfc c other some) ∙ passes_others _ (apart c some).avoids
            ]
      ]

  pub nfc_keeps : (cs : List ℕ) → list_all q cs ≡ true → list_all q (nfc cs) ≡ true
  nfc_keeps = list_all-normalize Nfc q kept-decompose (λ a b c _ _ h. passes_other c (high_composite a b c h).not_special)

-- ---- characters that part a text

pub record Parts (x : ℕ) : Type 0 where
  pub ascii : x < 128
  pub special : is_special x ≡ true
  pub alone : compositions x ≡ []

pub parts_space : Parts 32
parts_space = record { ascii = omega arith; special = refl; alone = pairs_of_space }

pub parts_colon : Parts 58
parts_colon = record { ascii = omega arith; special = refl; alone = pairs_of_colon }

pub parts_underscore : Parts 95
parts_underscore = record { ascii = omega arith; special = refl; alone = pairs_of_underscore }

pub starter-ascii : (x : ℕ) → x < 128 → ccc x ≤ 0
starter-ascii x h = omega (arith, class-latin x (omega arith))

pub final-ascii : (x : ℕ) → x < 128 → is_final Nfd x ≡ true
final-ascii x h = is_final-Nfd x (quick_check-ascii Nfd x h)

never_first : (x : ℕ) → Parts x → (b : ℕ) → primary_composite x b ≡ None
unfolding paired_with
never_first x parts b =
    let small = parts.ascii in
    elim (cases_Option (compose_hangul x b)) [
      | inl none ↦ primary_composite-table x b none ∙ composite-paired_with x b ∙ ap (paired_with b) parts.alone
      | inr some ↦ elim (compose_hangul-some x b some.0 some.1) [ inl lv ↦ absurd (omega arith) | inr lvt ↦ absurd (omega arith) ]
    ]

pub nfc-parted : (x : ℕ) → Parts x → (xs ys : List ℕ) → nfc (xs ++ x ∷ ys) ≡ nfc xs ++ x ∷ nfc ys
nfc-parted x parts xs ys =
    normalize-ascii_boundary Nfc xs x ys parts.ascii
    ∙ ap (λ l. nfc xs ++ l) (nfc-alone x ys (starter-ascii x parts.ascii) (final-ascii x parts.ascii) (never_first x parts))

-- ---- the first character after a first letter of ASCII

pub record BeginsLike (x : ℕ) (cs : List ℕ) : Type 0 where
  pub first : ℕ
  pub rest : List ℕ
  pub is : cs ≡ first ∷ rest
  pub like : (first ≡ x) ⊎ (128 ≤ first)

begins-compose_after : (x s : ℕ) (bs cs : List ℕ) → (s ≡ x) ⊎ (128 ≤ s) → BeginsLike x (compose_after s bs cs)
begins-compose_after x s bs [] like = record { first = s; rest = bs; is = compose_after-nil s bs; like = like }
begins-compose_after x s bs (c ∷ cs) like =
    compose_after-cases s bs c cs (BeginsLike x)
    (λ p free both. begins-compose_after x p bs cs (inr (high_composite s c p both).high))
    (λ none starter. record { first = s; rest = bs ++ compose_after c [] cs; is = refl; like = like })
    (λ none mark. begins-compose_after x s (bs ++ c ∷ []) cs like)

pub nfc-begins : (x : ℕ) (ys : List ℕ) → x < 128 → BeginsLike x (nfc (x ∷ ys))
nfc-begins x ys h =
    let starter = starter-ascii x h in
    let same = normalize-Nfc (x ∷ ys) ∙ ap compose (decomposed-passing Nfc x ys (final-ascii x h) starter) ∙ compose-starter x _ starter in
    subst (BeginsLike x) (sym same) (begins-compose_after x x [] (decomposed Nfc ys) (inl refl))
