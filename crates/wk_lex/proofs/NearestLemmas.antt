-- The nearest place of a word, as memchr's search tells it.
use Rattle.std.proofs.Common.{◌≡◌, ℕ, ◌+◌, ◌-◌, ◌<◌, ◌≤◌, ◌==◌, inl, inr, if◌then◌else◌, List, length, get_or, take, drop, Some, None, refl, ap, sym, subst, ◌∙◌, arith, length-drop, length-take, take_all}
use Rattle.std.proofs.lemmas.Bool.{cases_Bool}
use Rattle.std.proofs.lemmas.Bool.Decides.{Decides-eqb}
use Rattle.std.proofs.lemmas.Grind.{same_number_lists}
use Rattle.std.proofs.lemmas.List.{get_or-take, get_or-drop, drop-drop}
use Rattle.std.proofs.lemmas.Slice.Eq.{slice_eq-Decides}
use Rattle.std.specs.Bool.{Decides}
use Rattle.std.specs.List.{starts_with}
use Rattle.memchr.specs.Find.{FindsNeedle, NoneBefore, Nowhere, OccursAt}
use Rattle.wk_text_rules.specs.Shapes.{exactly}
use Rattle.wk_lex.specs.Places.{IsNowhereFrom, IsNearestPlace}

-- ---- a word at a place

module _ (text word : List ℕ) (at : ℕ) where
  decides : Decides (starts_with (λ a b. a == b) (drop at text) word) (word ≡ take (length word) (drop at text))
  decides = slice_eq-Decides Decides-eqb word (take (length word) (drop at text)) _ refl

  byte-at : (j : ℕ) → j < length word → get_or (take (length word) (drop at text)) j 0 ≡ get_or text (at + j) 0
  byte-at j within = get_or-take (length word) (drop at text) j 0 within ∙ get_or-drop at text j 0

  stands : OccursAt text word at → exactly word (drop at text) ≡ Some (drop (at + length word) text)
  stands h =
      let long : length word ≡ length (take (length word) (drop at text)) =
      omega (arith, length-take (length word) (drop at text), length-drop at text, h.fits) in
      let same : word ≡ take (length word) (drop at text) =
      same_number_lists word (take (length word) (drop at text)) long (λ j within. sym (byte-at j within ∙ h.reads j within)) in
      ap (λ t. if t then Some (drop (length word) (drop at text)) else None) (decides.1 same) ∙ ap Some (drop-drop (length word) at text)

  occurs : 0 < length word → word ≡ take (length word) (drop at text) → OccursAt text word at
  occurs some e = record {
    fits = omega (arith, ap length e, length-take (length word) (drop at text), length-drop at text);
    reads = λ j within. sym (byte-at j within) ∙ sym (ap (λ xs. get_or xs j 0) e);
  }

  absent : 0 < length word → ¬ OccursAt text word at → exactly word (drop at text) ≡ None
  absent some never = elim (cases_Bool (starts_with (λ a b. a == b) (drop at text) word)) [
    | inl here ↦ absurd (never (occurs some (decides.0 here)))
    | inr other ↦ ap (λ t. if t then Some (drop (length word) (drop at text)) else None) other
  ]

-- ---- the search, in what stands from a place on

module _ (text word : List ℕ) (from : ℕ) (some : 0 < length word) (within : from ≤ length text) where
  rest : take (length text - from) (drop from text) ≡ drop from text
  rest = take_all (length text - from) (drop from text) (omega (arith, length-drop from text))

  behind : (k : ℕ) → ¬ OccursAt (drop from text) word k → exactly word (drop (from + k) text) ≡ None
  behind k never = ap (exactly word) (sym (drop-drop k from text)) ∙ absent (drop from text) word k some never

  found : (place : ℕ) → NoneBefore (OccursAt (drop from text) word) 0 (length (drop from text) + 1) place → OccursAt (drop from text) word place → IsNearestPlace word text from (from + place)
  found place first here = record {
    behind = omega arith;
    before = λ at low high.
        let back : from + (at - from) ≡ at = omega arith in
        subst (λ n. exactly word (drop n text) ≡ None) back (behind (at - from) (first.before (at - from) (omega arith) (omega arith)));
    stands = record {
      fits =
          let same : from + (place + length word) ≡ from + place + length word = omega arith in
          ap (exactly word) (sym (drop-drop place from text))
          ∙ stands (drop from text) word place here
          ∙ ap Some (drop-drop (place + length word) from text ∙ ap (λ n. drop n text) same);
      within = (omega arith, omega (arith, here.fits, length-drop from text));
    };
  }

  pub nearest-some : (place : ℕ) → FindsNeedle (take (length text - from) (drop from text)) word 0 (Some place) → IsNearestPlace word text from (from + place)
  nearest-some place h =
      let h' : FindsNeedle (drop from text) word 0 (Some place) = subst (λ xs. FindsNeedle xs word 0 (Some place)) rest h in
      found place h'.0 h'.1

  pub nearest-none : FindsNeedle (take (length text - from) (drop from text)) word 0 None → IsNowhereFrom (exactly word) text from
  nearest-none h at low =
      let none : Nowhere (OccursAt (drop from text) word) 0 (length (drop from text) + 1) = subst (λ xs. FindsNeedle xs word 0 None) rest h in
      let back : from + (at - from) ≡ at = omega arith in
      subst (λ n. exactly word (drop n text) ≡ None) back
      (behind (at - from) (λ here. none (at - from) (omega arith) (omega (arith, here.fits)) here))
