-- Normalization Form C makes no carriage return of other characters.
use Rattle.std.proofs.Common.{◌≡◌, ◌≢◌, ℕ, zero, suc, ◌+◌, ◌-◌, ◌/◌, ◌%◌, Bool, true, false, not, ◌==◌, List, [], ◌∷◌, flat_map, Some, refl, sym, ap, ◌∙◌, inl, inr, arith}
use Rattle.std.specs.List.{list_all}
use Rattle.std.proofs.lemmas.Bool.{and_from, and_parts, cases_Bool, cases_eq, ne_eqb, not_from_false}
use Rattle.ucd_table.proofs.RangedFacts.{Stepped-at_points, points_ok, values_ok}
use Rattle.ucd_table.proofs.Computing.{tables}
use Rattle.ucd_normal.specs.declared.forms.Form.TheVariants.{Nfd, Nfc}
use Rattle.ucd_normal.specs.Decomposition.{decomposition, expand, or_itself}
use Rattle.ucd_normal.proofs.CompositionLemmas.{is_empty}
use Rattle.ucd_normal.proofs.DecompositionLemmas.{decomposition_stepped}
use Rattle.unicode_normalization.specs.Compose.{primary_composite}
use Rattle.unicode_normalization.specs.Decompose.{decompose}
use Rattle.unicode_normalization.specs.Forms.{nfc}
use Rattle.unicode_normalization.specs.Hangul.{is_syllable}
use Rattle.unicode_normalization.proofs.ComposeLemmas.{list_all-append}
use Rattle.unicode_normalization.proofs.DecomposeLemmas.{decompose-final, decompose-mapped, decompose-syllable, is_empty-true, is_final-parts, primary_composite-some}
use Rattle.unicode_normalization.proofs.FormsLemmas.{is_final-Nfd, quick_check-ascii}
use Rattle.unicode_normalization.proofs.HangulLemmas.{decompose_hangul-three, decompose_hangul-two}
use Rattle.unicode_normalization.proofs.KeptLemmas.{list_all-normalize}
use Rattle.unicode_normalization.proofs.TableFacts.{is_final, pick}

-- the character isn't a carriage return
abbrev pub is_other : ℕ → Bool
is_other c = not (c == 13)

other-than : (c : ℕ) → c ≢ 13 → is_other c ≡ true
other-than c apart = not_from_false _ (ne_eqb c 13 apart)

-- ---- decompositions

entry-lacks : (c : ℕ) → is_empty (pick Nfd (decomposition c)) ≡ false → list_all is_other (pick Nfd (decomposition c)) ≡ true
unfolding tables points_ok values_ok decomposition_stepped
entry-lacks c some = Stepped-at_points decomposition decomposition_stepped (λ e. is_empty (pick Nfd e)) (λ point e. list_all is_other (pick Nfd e)) refl c some

abbrev mapping : ℕ → List ℕ
mapping c = pick Nfd (decomposition c)

mapping-lacks : (c : ℕ) → list_all is_other (mapping c) ≡ true
mapping-lacks c = elim (cases_Bool (is_empty (mapping c))) [
  | inl none ↦ ap (list_all is_other) (is_empty-true (mapping c) none)
  | inr some ↦ entry-lacks c some
]

or-lacks : (c : ℕ) (parts : List ℕ) → is_other c ≡ true → list_all is_other parts ≡ true → list_all is_other (or_itself c parts) ≡ true
or-lacks c [] other all = and_from _ _ other refl
or-lacks c (part ∷ parts) other all = all

flat-lacks : (f : ℕ → List ℕ) → ((c : ℕ) → is_other c ≡ true → list_all is_other (f c) ≡ true) → (cs : List ℕ) → list_all is_other cs ≡ true → list_all is_other (flat_map f cs) ≡ true
flat-lacks f each [] all = refl
flat-lacks f each (c ∷ cs) all = let parts = and_parts (is_other c) (list_all is_other cs) all in list_all-append is_other (f c) (flat_map f cs) (each c parts.0) (flat-lacks f each cs parts.1)

expand-lacks : (depth c : ℕ) → list_all is_other (expand mapping depth c) ≡ true
unfolding expand
expand-lacks zero c = mapping-lacks c
expand-lacks (suc depth) c =
    flat-lacks (λ x. or_itself x (expand mapping depth x)) (λ x other. or-lacks x (expand mapping depth x) other (expand-lacks depth x)) (mapping c) (mapping-lacks c)

other-decompose : (c : ℕ) → is_other c ≡ true → list_all is_other (decompose Nfc c) ≡ true
other-decompose c other = elim (cases_Bool (is_syllable c)) [
  | inl syllable ↦
      let l = other-than (0x1100 + (c - 0xAC00) / 588) (λ e. omega arith) in
      let v = other-than (0x1161 + (c - 0xAC00) % 588 / 28) (λ e. omega arith) in
      let t = other-than (0x11A7 + (c - 0xAC00) % 28) (λ e. omega arith) in
      ap (list_all is_other) (decompose-syllable Nfc c syllable)
      ∙ elim (cases_eq ((c - 0xAC00) % 28) 0) [
        | inl two ↦ ap (list_all is_other) (decompose_hangul-two c two) ∙ and_from _ _ l (and_from _ _ v refl)
        | inr three ↦ ap (list_all is_other) (decompose_hangul-three c three) ∙ and_from _ _ l (and_from _ _ v (and_from _ _ t refl))
      ]
  | inr alone ↦
      elim (cases_Bool (is_empty (pick Nfc (decomposition c)))) [
        | inl none ↦ ap (list_all is_other) (decompose-final Nfc c (and_from _ _ none (not_from_false _ alone))) ∙ and_from _ _ other refl
        | inr some ↦ ap (list_all is_other) (decompose-mapped Nfc c alone some) ∙ expand-lacks 3 c
      ]
]

-- ---- composites

final-return : is_final Nfd 13 ≡ true
final-return = is_final-Nfd 13 (quick_check-ascii Nfd 13 (omega arith))

other-composite : (a b c : ℕ) → is_other a ≡ true → is_other b ≡ true → primary_composite a b ≡ Some c → is_other c ≡ true
other-composite a b c first second both =
    other-than c (λ e.
    elim (primary_composite-some a b c both) [
      | inl hangul ↦ elim hangul [ inl lv ↦ omega arith | inr lvt ↦ omega arith ]
      | inr table ↦
          let clash = sym (is_final-parts Nfd 13 final-return).0 ∙ ap (λ x. is_empty (pick Nfd (decomposition x))) (sym e) ∙ ap is_empty table.mapping in
          cc
    ])

pub nfc-lacks : (cs : List ℕ) → list_all is_other cs ≡ true → list_all is_other (nfc cs) ≡ true
nfc-lacks = list_all-normalize Nfc is_other other-decompose other-composite
