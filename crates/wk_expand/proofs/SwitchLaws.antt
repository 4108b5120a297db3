-- The rules of a `#switch`, item by item.
use Rattle.std.proofs.Common.{◌≡◌, ℕ, suc, ◌+◌, ◌<◌, Bool, true, false, List, [], ◌∷◌, length, drop, Option, Some, None, IsSome, refl, sym, ap, ap₂, subst, ◌∙◌, get_or, arith}
use Rattle.std.specs.List.{slice_get}
use Rattle.std.specs.Option.{IfSome}
use Rattle.std.proofs.Math.Seq.{drop-cons}
use Rattle.std.proofs.lemmas.Option.{slice_get-get_or, slice_get_within}
use Rattle.wk_text_rules.specs.Titles.{PageTitle}
use Rattle.wk_tree.specs.Parsed.{ParsedText, list_with}
use Rattle.wk_tree.specs.declared.item.ListId.{ListId}
use Rattle.wk_tree_rules.specs.Tree.{Part}
use Rattle.wk_tree_rules.specs.Trees.{Item}
use Rattle.wk_view_rules.specs.Expand.{Search, behind_bare_item, behind_named_item, switch_output, trimmed_items, without_result}
use Rattle.wk_view_rules.specs.Expansions.{Expansion, Output, give, ◌>>=◌}
use Rattle.wk_view_rules.specs.Frames.{Frame}
use Rattle.wk_view_rules.specs.Words.{named_item}
use Rattle.wk_view_rules.specs.declared.Turned.{Turned}
use Rattle.wk_view_rules.specs.declared.Turned.TheVariants.{Result, Default, Pass}
use Rattle.wk_expand.specs.Searches.{HasDefault, behind_turned}
use Rattle.wk_expand.specs.Stack.{Place, searched}
use Rattle.wk_expand.specs.declared.search.Search.{Search as Found}

module _ (inner : Frame → List Item → Expansion Output) (viewed : PageTitle) (frame : Frame) where
  abbrev pub behind_bare : Search → List Part → Output → Expansion Output
  behind_bare so_far parts text = switch_output inner viewed frame (behind_bare_item so_far text) parts

  -- the rest, by the search behind an item with an equals sign
  abbrev pub by_search : Part → List Part → Option Search → Expansion Output
  by_search part parts None = trimmed_items inner viewed frame part.value
  by_search part parts (Some later) = switch_output inner viewed frame later parts

  abbrev pub behind_switched_name : Search → Part → List Part → Output → Expansion Output
  behind_switched_name so_far part parts text = by_search part parts (behind_turned (named_item so_far.decides text) so_far part.value)

  abbrev by_turned : Search → Part → List Part → Turned → Expansion Output
  by_turned so_far part parts turned = elim turned [
    | Result ↦ trimmed_items inner viewed frame part.value
    | Default ↦ switch_output inner viewed frame (behind_named_item so_far (Some part.value)) parts
    | Pass ↦ switch_output inner viewed frame (behind_named_item so_far so_far.default) parts
  ]

  turned-search : (so_far : Search) (part : Part) (parts : List Part) (turned : Turned) → by_turned so_far part parts turned ≡ by_search part parts (behind_turned turned so_far part.value)
  turned-search so_far part parts Result = refl
  turned-search so_far part parts Default = refl
  turned-search so_far part parts Pass = refl

  abbrev by_matched : Search → Part → List Part → List Item → Bool → Expansion Output
  by_matched so_far part parts name matched = elim matched [
    | true ↦ trimmed_items inner viewed frame part.value
    | false ↦ trimmed_items inner viewed frame name >>= (λ text. by_turned so_far part parts (named_item so_far.decides text))
  ]

  abbrev by_name : Search → Part → List Part → Option (List Item) → Expansion Output
  by_name so_far part parts found = elim found [
    | None ↦ trimmed_items inner viewed frame part.value >>= behind_bare so_far parts
    | Some name ↦ by_matched so_far part parts name so_far.matched
  ]

  switch-by : (so_far : Search) (part : Part) (parts : List Part) (found : Option (List Item)) → part.name ≡ found → switch_output inner viewed frame so_far (part ∷ parts) ≡ by_name so_far part parts found
  unfolding switch_output
  switch-by so_far part parts found e = ap (by_name so_far part parts) e

  pub switch-bare : (so_far : Search) (part : Part) (parts : List Part) → part.name ≡ None → switch_output inner viewed frame so_far (part ∷ parts) ≡ (trimmed_items inner viewed frame part.value >>= behind_bare so_far parts)
  switch-bare so_far part parts e = switch-by so_far part parts None e

  pub switch-matched : (so_far : Search) (part : Part) (parts : List Part) (name : List Item) → part.name ≡ Some name → so_far.matched ≡ true → switch_output inner viewed frame so_far (part ∷ parts) ≡ trimmed_items inner viewed frame part.value
  switch-matched so_far part parts name e matched = switch-by so_far part parts (Some name) e ∙ ap (by_matched so_far part parts name) matched

  pub switch-named : (so_far : Search) (part : Part) (parts : List Part) (name : List Item) → part.name ≡ Some name → so_far.matched ≡ false → switch_output inner viewed frame so_far (part ∷ parts) ≡ (trimmed_items inner viewed frame name >>= behind_switched_name so_far part parts)
  switch-named so_far part parts name e unmatched =
      switch-by so_far part parts (Some name) e
      ∙ ap (by_matched so_far part parts name) unmatched
      ∙ ap (λ (next : Output → Expansion Output). trimmed_items inner viewed frame name >>= next) (λ i text. turned-search so_far part parts (named_item so_far.decides text) i)

  pub switch-end : (so_far : Search) → switch_output inner viewed frame so_far [] ≡ without_result inner viewed frame so_far
  unfolding switch_output
  switch-end so_far = refl

  pub without-text : (so_far : Search) (text : Output) → so_far.bare_before ≡ Some text → without_result inner viewed frame so_far ≡ give text
  unfolding without_result
  without-text so_far text e = rw e refl

  pub without-default : (so_far : Search) (value : List Item) → so_far.bare_before ≡ None → so_far.default ≡ Some value → without_result inner viewed frame so_far ≡ trimmed_items inner viewed frame value
  unfolding without_result
  without-default so_far value e default = rw (e, default) refl

  pub without-all : (so_far : Search) → so_far.bare_before ≡ None → so_far.default ≡ None → without_result inner viewed frame so_far ≡ give []
  unfolding without_result
  without-all so_far e default = rw (e, default) refl

-- ---- the search as it is kept

pub default-there : (parsed : ParsedText) (s : Found) (list : ListId) → s.default ≡ Some list → HasDefault parsed s → IsSome (list_with parsed list)
default-there parsed s list e h = subst (λ (o : Option ListId). IfSome o (λ l. IsSome (list_with parsed l))) e h.list

pub default-kept : (parsed : ParsedText) (s t : Found) → t.default ≡ s.default → HasDefault parsed s → HasDefault parsed t
default-kept parsed s t e h = record { list = subst (λ (o : Option ListId). IfSome o (λ l. IsSome (list_with parsed l))) (sym e) h.list }

-- what is left of a list from an element on
pub rest-at : {X : Type 0} (xs : List X) (i : ℕ) (x : X) → slice_get xs i ≡ Some x → drop i xs ≡ x ∷ drop (i + 1) xs
rest-at {X} xs i x e =
    let within : i < length xs = slice_get_within xs i x e in
    let found : Some (get_or xs i x) ≡ Some x = sym (slice_get-get_or xs i x within) ∙ e in
    let same : get_or xs i x ≡ x = cc in
    let next : suc i ≡ i + 1 = omega arith in
    drop-cons xs i x within ∙ ap₂ (λ (y : X) (n : ℕ). y ∷ drop n xs) same next

-- the rest, by the value alone
pub searched-same : (p : Place) (part : Part) (parts : List Part) (o : Option Search) → by_search p.inner p.viewed p.frame part parts o ≡ searched p part.value parts o
searched-same p part parts None = refl
searched-same p part parts (Some later) = refl
