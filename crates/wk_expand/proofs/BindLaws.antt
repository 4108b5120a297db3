-- What is bound for the parts of a template, part by part.
use Rattle.std.proofs.Common.{◌≡◌, ℕ, zero, suc, ◌+◌, true, false, List, [], ◌∷◌, drop, Option, Some, None, refl, ap, arith, ◌∙◌}
use Rattle.std.specs.Prelude.{decimal}
use Rattle.std.specs.List.{slice_get}
use Rattle.wk_args.specs.Args.{bound}
use Rattle.wk_text_rules.specs.Marked.{plain_text_of, trimmed_output}
use Rattle.wk_text_rules.specs.Titles.{PageTitle}
use Rattle.wk_tree_rules.specs.Tree.{Part as TreePart}
use Rattle.wk_tree_rules.specs.Trees.{Item}
use Rattle.wk_view_rules.specs.Expand.{trimmed_items, with_bindings}
use Rattle.wk_view_rules.specs.Expansions.{Expansion, Output, give, ◌>>=◌}
use Rattle.wk_view_rules.specs.Frames.{Frame, Binding}
use Rattle.wk_frames.specs.Bindings.{named_binding}
use Rattle.wk_expand.proofs.WrittenLaws.{bind-same, regrouped}

-- ---- the rules

module _ (inner : Frame → List Item → Expansion Output) (viewed : PageTitle) (frame : Frame) where
  pub bindings-end : (next : ℕ) (bindings : List Binding) → with_bindings inner viewed frame next bindings [] ≡ give bindings
  unfolding with_bindings
  bindings-end next bindings = refl

  pub bindings-bare : (next : ℕ) (bindings : List Binding) (part : TreePart) (parts : List TreePart) → part.name ≡ None → with_bindings inner viewed frame next bindings (part ∷ parts) ≡ with_bindings inner viewed frame (suc next) (record { name = decimal next; value = part.value; named = false } ∷ bindings) parts
  unfolding with_bindings
  bindings-bare next bindings part parts e = rw e refl

  abbrev pub behind_plain : ℕ → List Binding → TreePart → List TreePart → Option (List ℕ) → Expansion (List Binding)
  behind_plain next bindings part parts found = with_bindings inner viewed frame next (named_binding part.value found bindings) parts

  abbrev pub behind_bound : ℕ → List Binding → TreePart → List TreePart → Output → Expansion (List Binding)
  behind_bound next bindings part parts out = elim (plain_text_of out) [
    | None ↦ with_bindings inner viewed frame next bindings parts
    | Some text ↦ with_bindings inner viewed frame next (record { name = text; value = part.value; named = true } ∷ bindings) parts
  ]

  pub bindings-named : (next : ℕ) (bindings : List Binding) (part : TreePart) (parts : List TreePart) (name : List Item) → part.name ≡ Some name → with_bindings inner viewed frame next bindings (part ∷ parts) ≡ (trimmed_items inner viewed frame name >>= behind_bound next bindings part parts)
  unfolding with_bindings
  bindings-named next bindings part parts name e = rw e refl

  plain-cases : (next : ℕ) (bindings : List Binding) (part : TreePart) (parts : List TreePart) (found : Option (List ℕ)) → (elim found [
    | None ↦ with_bindings inner viewed frame next bindings parts
    | Some text ↦ with_bindings inner viewed frame next (record { name = text; value = part.value; named = true } ∷ bindings) parts
  ]) ≡ behind_plain next bindings part parts found
  plain-cases next bindings part parts None = refl
  plain-cases next bindings part parts (Some text) = refl

  -- behind a name, whose output this is
  pub bindings-behind : (next : ℕ) (bindings : List Binding) (part : TreePart) (parts : List TreePart) (name : List Item) → part.name ≡ Some name → with_bindings inner viewed frame next bindings (part ∷ parts) ≡ (inner frame name >>= (λ out. behind_plain next bindings part parts (plain_text_of (trimmed_output out))))
  bindings-behind next bindings part parts name e =
      bindings-named next bindings part parts name e
      ∙ regrouped (inner frame name) (λ out. give (trimmed_output out)) (behind_bound next bindings part parts)
      ∙ bind-same (inner frame name) (λ out. behind_bound next bindings part parts (trimmed_output out)) (λ out. behind_plain next bindings part parts (plain_text_of (trimmed_output out))) (λ out. plain-cases next bindings part parts (plain_text_of (trimmed_output out)))

-- ---- the parts, as the code finds them

drop-some : {X : Type 0} (xs : List X) (i : ℕ) (x : X) → slice_get xs i ≡ Some x → drop i xs ≡ x ∷ drop (suc i) xs
drop-some [] i x e = cc
drop-some (y ∷ xs) zero x e = let same : y ≡ x = cc in ap (λ z. z ∷ xs) same
drop-some (y ∷ xs) (suc i) x e = drop-some xs i x e

pub drop-next : {X : Type 0} (xs : List X) (i : ℕ) (x : X) → slice_get xs i ≡ Some x → drop i xs ≡ x ∷ drop (i + 1) xs
drop-next xs i x e =
    let one : suc i ≡ i + 1 = omega arith in
    drop-some xs i x e ∙ ap (λ k. x ∷ drop k xs) one
