-- The tree of a text, its nodes and their parts (MediaWiki's Preprocessor ABNF and Help:Templates).
use Rattle.std.specs.Prelude.{ℕ, ◌+◌, ◌*◌, List, [], ◌∷◌, ◌++◌, length, map, flat_map, option_to_list, Option, Some, None, option_map}
use Rattle.wk_tree_rules.specs.Reduction.{Piece, entry, opening, closing, pieces_of, plain_opening, plain_closing, reduced}
use Rattle.wk_tree_rules.specs.Selection.{selected}
use Rattle.wk_tree_rules.specs.Trees.{Item, plain, sealed, nothing, node, Content, empty_content, item_then, bar_then, equals_then, NodeKind, Entry, item, bar, equals, entries, width, content_source, items_source, plain_entry, merged, plain_items}
use Rattle.wk_tree_rules.specs.declared.Mode.{Mode}

-- ---- the tree

-- a piece outside nodes: all delimiters that are left are plain bytes there, and so are bars and equals signs
abbrev pub item_of : Piece → Item
item_of (entry e) = plain_entry e
item_of (opening run) = plain_opening run
item_of (closing run) = plain_closing run

-- The tree of a text in a mode: the items of its root, each longest stretch of plain text as one item.
unfoldable pub tree : Mode → List ℕ → List Item
tree mode text = merged (map item_of (reduced (pieces_of mode (selected mode text))))

-- ---- parts

-- a content split at its bars: what stands before the first, and behind each the place and the entries up to the next
pub record Split : Type 0 where
  pub first : List Entry
  pub further : List (ℕ × List Entry)

abbrev pub split_by : Entry → Split → Split
split_by (item i) split = record split { first = item i ∷ split.first }
split_by (equals start) split = record split { first = equals start ∷ split.first }
split_by (bar start) split = record { first = []; further = (start + 1, split.first) ∷ split.further }

abbrev pub split_at_bars : List Entry → Split
split_at_bars [] = record { first = []; further = [] }
split_at_bars (e ∷ parts) = split_by e (split_at_bars parts)

-- the title part of a content; equals signs are plain there
abbrev pub title_part : Content → List Item
title_part content = plain_items (split_at_bars (entries content)).first

-- a further part: its name, where it has an equals sign, its value, and the place at which the value starts
pub record Part : Type 0 where
  pub name : Option (List Item)
  pub value : List Item
  pub start : ℕ

-- what stands before the first equals sign, where there is one, the place behind it, and what follows
abbrev pub name_by : Entry → List Entry → Option (List Entry × ℕ × List Entry) → Option (List Entry × ℕ × List Entry)
name_by (item i) parts later = option_map (λ found. (item i ∷ found.0, found.1, found.2)) later
name_by (bar start) parts later = option_map (λ found. (bar start ∷ found.0, found.1, found.2)) later
name_by (equals start) parts later = Some ([], start + 1, parts)

abbrev pub split_at_equals : List Entry → Option (List Entry × ℕ × List Entry)
split_at_equals [] = None
split_at_equals (e ∷ parts) = name_by e parts (split_at_equals parts)

-- The first equals sign of a part separates its name from its value; later ones are plain.
abbrev pub part_of : ℕ × List Entry → Part
part_of (start, parts) = elim (split_at_equals parts) [
  | None ↦ record { name = None; value = plain_items parts; start = start }
  | Some found ↦ record { name = Some (plain_items found.0); value = plain_items found.2; start = found.1 }
]

-- the further parts of a content, in order
abbrev pub further_parts : Content → List Part
further_parts content = map part_of (split_at_bars (entries content)).further

-- how long the source of a part's value is
abbrev pub value_length : Part → ℕ
value_length part = length (items_source part.value)

-- ---- nodes and lists by their places in a walk from the root

pub record Node : Type 0 where
  pub kind : NodeKind
  pub start : ℕ
  pub content : Content

-- how long the source of a node is
abbrev pub node_length : Node → ℕ
node_length n = 2 * width n.kind + length (content_source n.content)

unfoldable mutual
  -- a node, and then those that stand in it
  pub nodes_of : Item → List Node
  nodes_of (plain start source) = []
  nodes_of (sealed start source) = []
  nodes_of (nothing start source) = []
  nodes_of (node kind start content) = record { kind = kind; start = start; content = content } ∷ content_nodes content

  pub content_nodes : Content → List Node
  content_nodes empty_content = []
  content_nodes (item_then i rest) = nodes_of i ++ content_nodes rest
  content_nodes (bar_then start rest) = content_nodes rest
  content_nodes (equals_then start rest) = content_nodes rest

-- all nodes of a tree, each before those that stand in it, in the order of their sources
abbrev pub nodes : List Item → List Node
nodes items = flat_map nodes_of items

-- the lists of a part: its name, if it has one, and its value
abbrev pub part_lists : Part → List (List Item)
part_lists part = option_to_list part.name ++ part.value ∷ []

-- the lists of a node: its title part, and those of its further parts
abbrev pub node_lists : Node → List (List Item)
node_lists n = title_part n.content ∷ flat_map part_lists (further_parts n.content)

-- all lists of a tree: the root, and then those of each node in order
abbrev pub lists : List Item → List (List Item)
lists items = items ∷ flat_map node_lists (nodes items)
