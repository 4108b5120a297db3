-- What is selected of a text of UTF-8 is UTF-8.
use Rattle.std.proofs.Common.{◌≡◌, ℕ, List, [], ◌∷◌, ◌++◌, drop, codes, filter_map, Option, Some, None, option_and_then, unwrap_or, refl, sym, subst, IsUtf8}
use Rattle.std.proofs.lemmas.Str.{IsUtf8-nil, IsUtf8-append}
use Rattle.std.specs.List.{AllByRecursion, concat, cons_option}
use Rattle.wk_text_rules.specs.Shapes.{Span, exactly, split_at_nearest, spans}
use Rattle.wk_tree_laws.proofs.CutLemmas.{back-at_ascii}
use Rattle.wk_tree_laws.proofs.SpanLemmas.{spans-all-of}
use Rattle.wk_tree_laws.proofs.TextAtomLemmas.{EndsUtf8, EndsUtf8-passed, IsTextShape, word}
use Rattle.wk_tree_laws.proofs.TextShapeLemmas.{split_at_nearest-fits, FitsAt-utf8}
use Rattle.wk_tree_rules.specs.Selection.{part_at, selected_parts, joined_parts, selection, selected}
use Rattle.wk_tree_rules.specs.declared.Mode.{Mode}
use Rattle.wk_tree_rules.specs.declared.Mode.TheVariants.{View, Include}

-- a part that is UTF-8, where there is one
abbrev IsPart : Option (List ℕ) → Type 0
IsPart None = Unit {0}
IsPart (Some part) = IsUtf8 part

opening_word : IsTextShape (exactly (codes "<onlyinclude>"))
opening_word = word 60 (codes "onlyinclude>") refl

end_word : IsTextShape (exactly (codes "</onlyinclude>"))
end_word = word 60 (codes "/onlyinclude>") refl

module _ (text : List ℕ) (u : EndsUtf8 text) where
  part-text : (inside : List ℕ) (found : List ℕ × List ℕ) → exactly (codes "<onlyinclude>") text ≡ Some inside → split_at_nearest (exactly (codes "</onlyinclude>")) inside ≡ Some found → IsUtf8 found.0
  part-text inside found e f =
      let b = opening_word.begins.begins text inside e in
      let whole : IsUtf8 (b.0 ∷ (b.1 ++ inside)) = back-at_ascii u.front b.0 (b.1 ++ inside) b.3 (subst (λ t. IsUtf8 (u.front ++ t)) b.2 u.whole) in
      let rest : IsUtf8 inside = opening_word.cuts.keeps text inside (subst IsUtf8 (sym b.2) whole) e in
      (FitsAt-utf8 (exactly (codes "</onlyinclude>")) inside found.0 found.1 end_word.cuts end_word.begins rest (split_at_nearest-fits (exactly (codes "</onlyinclude>")) inside found f)).0

  by_end : (inside : List ℕ) (o : Option (List ℕ × List ℕ)) → exactly (codes "<onlyinclude>") text ≡ Some inside → split_at_nearest (exactly (codes "</onlyinclude>")) inside ≡ o → IsPart (elim o as (λ _. Option (List ℕ) × List ℕ) [ Some found ↦ (Some found.0, found.1) | None ↦ (None, drop 1 text) ]).0
  by_end inside None e f = tt
  by_end inside (Some found) e f = part-text inside found e f

  by_start : (o : Option (List ℕ)) → exactly (codes "<onlyinclude>") text ≡ o → IsPart (elim (option_and_then (split_at_nearest (exactly (codes "</onlyinclude>"))) o) as (λ _. Option (List ℕ) × List ℕ) [ Some found ↦ (Some found.0, found.1) | None ↦ (None, drop 1 text) ]).0
  by_start None e = tt
  by_start (Some inside) e = by_end inside (split_at_nearest (exactly (codes "</onlyinclude>")) inside) e refl

  part_at-text : (before : Option ℕ) → IsPart (part_at before text).0
  part_at-text before = by_start (exactly (codes "<onlyinclude>") text) refl

parts-by : (found : List (Span (Option (List ℕ)) ℕ)) → AllByRecursion (λ (s : Span (Option (List ℕ)) ℕ). IsPart s.kind) found → AllByRecursion IsUtf8 (filter_map (λ (s : Span (Option (List ℕ)) ℕ). s.kind) found)
parts-by [] all = tt
parts-by (span ∷ found) all = by_kind span.kind all.0 (parts-by found all.1)
  where
    by_kind : (kind : Option (List ℕ)) → IsPart kind → AllByRecursion IsUtf8 (filter_map (λ (s : Span (Option (List ℕ)) ℕ). s.kind) found) → AllByRecursion IsUtf8 (cons_option kind (filter_map (λ (s : Span (Option (List ℕ)) ℕ). s.kind) found))
    by_kind None h later = later
    by_kind (Some part) h later = (h, later)

selected_parts-texts : (text : List ℕ) → IsUtf8 text → AllByRecursion IsUtf8 (selected_parts text)
selected_parts-texts text u =
    parts-by (spans part_at text)
    (spans-all-of part_at EndsUtf8 EndsUtf8-passed (λ kind source. IsPart kind) (λ before x xs h. part_at-text (x ∷ xs) h before) text (record { front = []; whole = u }))

concat-text : (parts : List (List ℕ)) → AllByRecursion IsUtf8 parts → IsUtf8 (concat parts)
concat-text [] all = IsUtf8-nil
concat-text (part ∷ parts) all = IsUtf8-append part (concat parts) all.0 (concat-text parts all.1)

joined-text : (text : List ℕ) (parts : List (List ℕ)) → IsUtf8 text → AllByRecursion IsUtf8 parts → IsUtf8 (unwrap_or (joined_parts parts) text)
joined-text text [] u all = u
joined-text text (part ∷ parts) u all = concat-text (part ∷ parts) all

pub selected-text : (mode : Mode) (text : List ℕ) → IsUtf8 text → IsUtf8 (selected mode text)
unfolding selection
selected-text View text u = u
selected-text Include text u = joined-text text (selected_parts text) u (selected_parts-texts text u)
