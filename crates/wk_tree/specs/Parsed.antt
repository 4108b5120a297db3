-- A parsed text, and its nodes and lists by how they are named.
use Rattle.std.specs.Prelude.{◌≡◌, ℕ, List, Option, Some, None, option_map, option_and_then}
use Rattle.std.specs.List.{slice_get}
use Rattle.wk_tree.specs.Laid.{NodeShown}
use Rattle.wk_tree.specs.Shown.{from_end, ShowsItems, ShowsNodes}
use Rattle.wk_tree.specs.declared.item.Item.{Item}
use Rattle.wk_tree.specs.declared.item.ListId.{ListId}
use Rattle.wk_tree.specs.declared.item.ListId.TheVariants.{Root, Title, Name, Value}
use Rattle.wk_tree.specs.declared.item.NodeId.{NodeId}
use Rattle.wk_tree.specs.declared.parsed.Part.{Part}
use Rattle.wk_tree_rules.specs.Selection.{selection, selected}
use Rattle.wk_tree_rules.specs.Tree.{Node, Part as TreePart, tree, nodes, title_part, further_parts, value_length}
use Rattle.std.specs.Str.{IsUtf8}
use Rattle.wk_tree_laws.specs.Places.{IsItemIn}
use Rattle.wk_tree_rules.specs.Trees.{Item as TreeItem, source_of as item_source}
use Rattle.wk_tree_rules.specs.declared.Mode.{Mode}

-- a text, and how it is read
pub record ParsedText : Type 0 where
  pub mode : Mode
  pub text : List ℕ

-- the tree of a parsed text, and its nodes in the order of a walk from the root
abbrev pub tree_of : ParsedText → List TreeItem
tree_of parsed = tree parsed.mode parsed.text

abbrev pub nodes_of : ParsedText → List Node
nodes_of parsed = nodes (tree_of parsed)

-- the text that is read
abbrev pub source_of : ParsedText → List ℕ
source_of parsed = selected parsed.mode parsed.text

-- the node that has so many behind it
abbrev pub node_with : ParsedText → NodeId → Option Node
node_with parsed id = from_end (nodes_of parsed) id.0

-- a further part of a node; the first is part 0
abbrev pub part_at : ℕ → Node → Option TreePart
part_at at n = slice_get (further_parts n.content) at

abbrev pub part_with : ParsedText → NodeId → ℕ → Option TreePart
part_with parsed id at = option_and_then (part_at at) (node_with parsed id)

-- the list of a name
abbrev pub list_with : ParsedText → ListId → Option (List TreeItem)
list_with parsed Root = Some (tree_of parsed)
list_with parsed (Title id) = option_map (λ n. title_part n.content) (node_with parsed id)
list_with parsed (Name id at) = option_and_then (λ q. q.name) (part_with parsed id at)
list_with parsed (Value id at) = option_map (λ q. q.value) (part_with parsed id at)

-- an item's source stands in the text that is read where the item says, and is UTF-8
pub record IsTextIn (source : List ℕ) (i : TreeItem) : Type 0 where
  pub place : IsItemIn source i
  pub utf8 : IsUtf8 (item_source i)

-- what is kept of a parsed text
pub record IsParsed (mode : Mode) (text : List ℕ) (source : Option (List ℕ)) (root : List Item) (found : List NodeShown) : Type 0 where
  pub source_is : source ≡ selection mode text
  pub root_shows : ShowsItems (nodes (tree mode text)) root (tree mode text)
  pub nodes_show : ShowsNodes (nodes (tree mode text)) found (nodes (tree mode text))

-- the name of a part and its list
abbrev pub IsName : ParsedText → Option ListId → Option (List TreeItem) → Type 0
IsName parsed None None = Unit {0}
IsName parsed (Some list) (Some items) = list_with parsed list ≡ Some items
IsName parsed None (Some items) = ⊥
IsName parsed (Some list) None = ⊥

-- a part and its lists
pub record IsPart (parsed : ParsedText) (p : Part) (q : TreePart) : Type 0 where
  pub name : IsName parsed p.name q.name
  pub value : list_with parsed p.value ≡ Some q.value
  pub start : p.start ≡ q.start
  pub len : p.len ≡ value_length q
