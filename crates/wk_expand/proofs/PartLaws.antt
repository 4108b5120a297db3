-- Further parts of a node, as the code finds them.
use Rattle.std.proofs.Common.{◌≡◌, ℕ, true, false, List, ◌++◌, codes, Option, Some, None, IsSome, refl, ap, subst, ◌∙◌}
use Rattle.std.specs.Option.{IfSome}
use Rattle.wk_text_rules.specs.Marked.{all_plain}
use Rattle.wk_text_rules.specs.Titles.{PageTitle}
use Rattle.wk_tree_rules.specs.Tree.{Part as TreePart}
use Rattle.wk_tree_rules.specs.Trees.{Item}
use Rattle.wk_tree.specs.Parsed.{ParsedText, list_with, part_with, IsName, IsPart}
use Rattle.wk_tree.specs.declared.item.ListId.{ListId}
use Rattle.wk_tree.specs.declared.item.NodeId.{NodeId}
use Rattle.wk_tree.specs.declared.parsed.Part.{Part}
use Rattle.wk_view_rules.specs.Expand.{whole_part}
use Rattle.wk_view_rules.specs.Expansions.{Expansion, Output, give, ◌>>=◌}
use Rattle.wk_view_rules.specs.Frames.{Frame}
use Rattle.wk_expand.specs.Running.{IsSame}
use Rattle.wk_expand.specs.State.{current}
use Rattle.wk_expand.specs.declared.state.Expander.{Expander}
use Rattle.wk_frames.specs.Levels.{LevelsShown, tree_in}

pub current-same : (s t : Expander) → IsSame s t → current t ≡ current s
current-same s t same =
    ap (λ (v : LevelsShown). tree_in v.root v.included) same.levels

-- what holds of the value that there is
pub at_some : {X : Type 0} (P : X → Type 0) (o : Option X) (x : X) → o ≡ Some x → IfSome o P → P x
at_some P None x e h = cc
at_some P (Some y) x e h = let same : y ≡ x = cc in subst P same h

pub some_of : {X : Type 0} (o : Option X) (x : X) → o ≡ Some x → IsSome o
some_of None x e = cc
some_of (Some y) x e = refl

-- the list of a name
name_found : (parsed : ParsedText) (o : Option ListId) (q : Option (List Item)) (list : ListId) → o ≡ Some list → IsName parsed o q → (items : List Item) × (q ≡ Some items) × (list_with parsed list ≡ Some items)
name_found parsed None q list e h = cc
name_found parsed (Some other) None list e h = absurd h
name_found parsed (Some other) (Some items) list e h = let same : other ≡ list = cc in (items, refl, subst (λ l. list_with parsed l ≡ Some items) same h)

pub named : (parsed : ParsedText) (p : Part) (q : TreePart) (list : ListId) → p.name ≡ Some list → IsPart parsed p q → (items : List Item) × (q.name ≡ Some items) × (list_with parsed list ≡ Some items)
named parsed p q list e h = name_found parsed p.name q.name list e h.name

bare_found : (parsed : ParsedText) (o : Option ListId) (q : Option (List Item)) → o ≡ None → IsName parsed o q → q ≡ None
bare_found parsed None None e h = refl
bare_found parsed None (Some items) e h = absurd h
bare_found parsed (Some list) q e h = cc

pub bare : (parsed : ParsedText) (p : Part) (q : TreePart) → p.name ≡ None → IsPart parsed p q → q.name ≡ None
bare parsed p q e h = bare_found parsed p.name q.name e h.name

-- the part of an option that there is
pub some_part : {X : Type 0} (o : Option X) → IsSome o → (x : X) × (o ≡ Some x)
some_part None h = absurd (let wrong : false ≡ true = h in cc)
some_part (Some x) h = (x, refl)

module _ (inner : Frame → List Item → Expansion Output) (viewed : PageTitle) (frame : Frame) (q : TreePart) where
  abbrev pub behind_name : Output → Expansion Output
  behind_name name_out = inner frame q.value >>= (λ value_out. give (name_out ++ all_plain (codes "=") ++ value_out))

  pub whole-named : (name : List Item) → q.name ≡ Some name → whole_part inner viewed frame q ≡ (inner frame name >>= behind_name)
  unfolding whole_part
  whole-named name e = rw e refl

  pub whole-bare : q.name ≡ None → whole_part inner viewed frame q ≡ inner frame q.value
  unfolding whole_part
  whole-bare e = rw e refl

pub part-is : (shown tree : ParsedText) (node : NodeId) (at : ℕ) (p : Part) (q : TreePart) → shown ≡ tree → IfSome (part_with shown node at) (IsPart shown p) → part_with tree node at ≡ Some q → IsPart tree p q
part-is shown tree node at p q same h e =
    at_some (IsPart tree p) (part_with tree node at) q e (subst (λ parsed. IfSome (part_with parsed node at) (IsPart parsed p)) same h)

-- the value of a part that is there
pub value-there : (shown tree : ParsedText) (node : NodeId) (at : ℕ) (p : Part) → shown ≡ tree → IfSome (part_with shown node at) (IsPart shown p) → IsSome (part_with tree node at) → IsSome (list_with tree p.value)
value-there shown tree node at p same h there =
    let q = some_part (part_with tree node at) there in
    some_of (list_with tree p.value) q.0.value (part-is shown tree node at p q.0 same h q.1).value

-- a list of a text is one of the same text later on
pub list-later : (s t : Expander) (list : ListId) (items : List Item) → IsSame s t → list_with (current s) list ≡ Some items → list_with (current t) list ≡ Some items
list-later s t list items same e = ap (λ parsed. list_with parsed list) (current-same s t same) ∙ e
