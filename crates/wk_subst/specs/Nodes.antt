-- The lists and nodes of a parsed text, and what is left to do for a list.
use Rattle.std.specs.Prelude.{◌≡◌, ℕ, zero, suc, Bool, false, true, not, List, [], ◌++◌, drop, Option, Some, None, is_some, unwrap_or, IsSome, if◌then◌else◌}
use Rattle.wk_tree_rules.specs.Tree.{Node, Part, further_parts, node_length}
use Rattle.wk_tree_rules.specs.Trees.{Item, plain, sealed, nothing, node, NodeKind, template, Content, empty_content, source_of as item_source}
use Rattle.wk_tree.specs.Parsed.{ParsedText, IsTextIn, list_with, node_with, nodes_of, source_of}
use Rattle.wk_tree.specs.Shown.{ShowsItem}
use Rattle.wk_tree.specs.declared.item.Item.{Item as Shown}
use Rattle.wk_tree.specs.declared.item.Item.TheVariants as code
use Rattle.wk_tree.specs.declared.item.ListId.{ListId}
use Rattle.wk_tree.specs.declared.item.NodeId.{NodeId}
use Rattle.wk_view_rules.specs.Expansions.{Expansion, give, ◌>>=◌}
use Rattle.wk_subst_rules.specs.Budget.{charged_or}
use Rattle.wk_subst_rules.specs.Places.{Place}
use Rattle.wk_subst_rules.specs.Substitution.{items_text, node_source, node_text, substituted_items}

-- the items of a list that is there
unfoldable pub items_of : ParsedText → ListId → List Item
items_of parsed list = unwrap_or (list_with parsed list) []

abbrev pub name_of : ParsedText → Option ListId → Option (List Item)
name_of parsed None = None
name_of parsed (Some list) = Some (items_of parsed list)

abbrev pub no_node : Node
no_node = record { kind = template; start = 0; content = empty_content }

-- a node that is there
unfoldable pub node_at : ParsedText → NodeId → Node
node_at parsed id = unwrap_or (node_with parsed id) no_node

abbrev pub source_of_node : Node → List ℕ
source_of_node n = node_source n.kind n.content

abbrev pub source_at : ParsedText → NodeId → List ℕ
source_at parsed id = source_of_node (node_at parsed id)

abbrev pub parts_of : Node → List Part
parts_of n = further_parts n.content

-- ---- items

-- what an item of the code stands for, in the text that is read
pub record IsShown (parsed : ParsedText) (c : Shown) (i : Item) : Type 0 where
  pub shows : ShowsItem (nodes_of parsed) c i
  pub text : IsTextIn (source_of parsed) i

-- the node that an item is, if it is one, is there
abbrev pub IsThere : ParsedText → Shown → Type 0
IsThere parsed (code.Plain start len) = Unit {0}
IsThere parsed (code.Sealed start len) = Unit {0}
IsThere parsed (code.Nothing start len) = Unit {0}
IsThere parsed (code.Node id) = IsSome (node_with parsed id)

-- where an item of the code stands, and how many bytes it has
abbrev pub span_by : ParsedText → Shown → ℕ × ℕ
span_by parsed (code.Plain start len) = (start, len)
span_by parsed (code.Sealed start len) = (start, len)
span_by parsed (code.Nothing start len) = (start, len)
span_by parsed (code.Node id) = ((node_at parsed id).start, node_length (node_at parsed id))

abbrev pub is_shown_node : Shown → Bool
is_shown_node (code.Plain start len) = false
is_shown_node (code.Sealed start len) = false
is_shown_node (code.Nothing start len) = false
is_shown_node (code.Node id) = true

abbrev pub is_shown_sealed : Shown → Bool
is_shown_sealed (code.Plain start len) = false
is_shown_sealed (code.Sealed start len) = true
is_shown_sealed (code.Nothing start len) = false
is_shown_sealed (code.Node id) = false

-- what an item that is no node gives
abbrev pub given_text : Bool → Item → List ℕ
given_text stays (plain start source) = source
given_text stays (sealed start source) = source
given_text stays (nothing start source) = if stays then source else []
given_text stays (node kind start content) = item_source (node kind start content)

-- ---- what is left to do

-- a text goes on with what is made, and then what is left
abbrev pub adds : Expansion (List ℕ) → (List ℕ → Expansion (List ℕ)) → List ℕ → Expansion (List ℕ)
adds made left out = made >>= (λ one. left (out ++ one))

-- what stands behind a node's charge, where so many nodes may be opened
abbrev pub opened_node : ℕ → Place → NodeKind → Content → Expansion (List ℕ)
opened_node zero place kind content = give (node_source kind content)
opened_node (suc few) place kind content = node_text (substituted_items few) place kind content

abbrev pub charged_node : ℕ → Place → NodeKind → Content → Expansion (List ℕ)
charged_node few place kind content = charged_or (node_source kind content) 1 (opened_node few place kind content)

-- the items of a list, and then what is left
unfoldable pub list_then : ℕ → Place → List Item → (List ℕ → Expansion (List ℕ)) → List ℕ → Expansion (List ℕ)
list_then few place items left out = adds (items_text place (charged_node few place) items) left out

-- a node, and then what is left
abbrev pub node_then : ℕ → Place → Node → (List ℕ → Expansion (List ℕ)) → List ℕ → Expansion (List ℕ)
node_then few place n left out = adds (charged_node few place n.kind n.content) left out

-- what gives nothing stays in a place
abbrev pub stays_in : Place → Bool
stays_in place = not (is_some place.bound)

-- A list's items from a place on make a text longer; a node stands next, or none.
abbrev pub IsFilled : ParsedText → ListId → ℕ → Bool → List ℕ → ℕ × Option NodeId → List ℕ → Type 0
IsFilled parsed list start stays out (next, None) new =
    (few : ℕ) (place : Place) (left : List ℕ → Expansion (List ℕ)) → stays_in place ≡ stays
    → list_then few place (drop start (items_of parsed list)) left out ≡ left new
IsFilled parsed list start stays out (next, Some id) new =
    IsSome (node_with parsed id)
    × ((few : ℕ) (place : Place) (left : List ℕ → Expansion (List ℕ)) → stays_in place ≡ stays
    → list_then few place (drop start (items_of parsed list)) left out
    ≡ node_then few place (node_at parsed id) (list_then few place (drop next (items_of parsed list)) left) new)
