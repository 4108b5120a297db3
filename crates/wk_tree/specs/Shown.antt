-- What the lists of a tree show.
use Rattle.std.specs.Prelude.{◌≡◌, ℕ, ◌+◌, ◌==◌, if◌then◌else◌, List, [], ◌∷◌, ◌++◌, length, map, Option, Some, None}
use Rattle.wk_tree.specs.Laid.{PartShown, NodeShown}
use Rattle.wk_tree.specs.Layout.{SectionShown, ValueShown, OpenNodeShown, LayoutShown}
use Rattle.wk_tree.specs.Tokens.{is_argument}
use Rattle.wk_tree.specs.declared.item.Item.{Item}
use Rattle.wk_tree.specs.declared.item.Item.TheVariants as code
use Rattle.wk_tree.specs.declared.item.NodeId.{NodeId}
use Rattle.wk_tree_rules.specs.Tree.{Node, Part, node_length, value_length, title_part, further_parts, part_of, split_at_bars, split_at_equals}
use Rattle.wk_tree_rules.specs.Trees.{Item as TreeItem, plain, sealed, nothing, node, NodeKind, Content, Entry, equals, plain_entry, merged}
use Rattle.wk_tree_laws.proofs.PieceLemmas.{entries_source}

-- the element that has so many behind it
abbrev pub from_end : {X : Type 0} → List X → ℕ → Option X
from_end [] n = None
from_end (x ∷ xs) n = if n == length xs then Some x else from_end xs n

-- an item of a list, where the nodes of the tree are known
pub data ShowsItem (ns : List Node) : Item → TreeItem → Type 0 where
  shows_plain : (start : ℕ) (source : List ℕ) → ShowsItem ns (code.Plain start (length source)) (plain start source)
  shows_sealed : (start : ℕ) (source : List ℕ) → ShowsItem ns (code.Sealed start (length source)) (sealed start source)
  shows_nothing : (start : ℕ) (source : List ℕ) → ShowsItem ns (code.Nothing start (length source)) (nothing start source)
  shows_node : (id : NodeId) (kind : NodeKind) (start : ℕ) (content : Content) → from_end ns id.0 ≡ Some (record { kind = kind; start = start; content = content }) → ShowsItem ns (code.Node id) (node kind start content)

pub data ShowsItems (ns : List Node) : List Item → List TreeItem → Type 0 where
  no_items : ShowsItems ns [] []
  one_more : {c : Item} {i : TreeItem} {cs : List Item} {items : List TreeItem} → ShowsItem ns c i → ShowsItems ns cs items → ShowsItems ns (c ∷ cs) (i ∷ items)

pub data ShowsName (ns : List Node) : Option (List Item) → Option (List TreeItem) → Type 0 where
  no_name : ShowsName ns None None
  a_name : {cs : List Item} {items : List TreeItem} → ShowsItems ns cs items → ShowsName ns (Some cs) (Some items)

pub record ShowsPart (ns : List Node) (p : PartShown) (q : Part) : Type 0 where
  pub name : ShowsName ns p.name q.name
  pub value : ShowsItems ns p.value q.value
  pub start : p.start ≡ q.start
  pub len : p.len ≡ value_length q

pub data ShowsParts (ns : List Node) : List PartShown → List Part → Type 0 where
  no_parts : ShowsParts ns [] []
  part_more : {p : PartShown} {q : Part} {ps : List PartShown} {qs : List Part} → ShowsPart ns p q → ShowsParts ns ps qs → ShowsParts ns (p ∷ ps) (q ∷ qs)

pub record ShowsNode (ns : List Node) (s : NodeShown) (n : Node) : Type 0 where
  pub argument : s.argument ≡ is_argument n.kind
  pub start : s.start ≡ n.start
  pub len : s.len ≡ node_length n
  pub title : ShowsItems ns s.title (title_part n.content)
  pub parts : ShowsParts ns s.parts (further_parts n.content)

pub data ShowsNodes (ns : List Node) : List NodeShown → List Node → Type 0 where
  no_nodes : ShowsNodes ns [] []
  node_more : {s : NodeShown} {n : Node} {ss : List NodeShown} {rest : List Node} → ShowsNode ns s n → ShowsNodes ns ss rest → ShowsNodes ns (s ∷ ss) (n ∷ rest)

-- ---- while the tokens are laid out

pub record ShowsSection (ns : List Node) (s : SectionShown) (parts : List Entry) : Type 0 where
  pub items : ShowsItems ns s.items (merged (map plain_entry parts))
  pub len : s.len ≡ length (entries_source parts)

-- entries up to the next bar, by their first equals sign
pub data ShowsSegment (ns : List Node) : SectionShown → Option ValueShown → List Entry → Option (List Entry × ℕ × List Entry) → Type 0 where
  no_equals : {s : SectionShown} {parts : List Entry} → ShowsSection ns s parts → ShowsSegment ns s None parts None
  at_equals : {s : SectionShown} {v : ValueShown} {name value : List Entry} → ShowsSection ns s name → ShowsSection ns v.section value → ShowsSegment ns s (Some v) (name ++ equals v.equals ∷ value) (Some (name, v.equals + 1, value))

pub record ShowsOpenNode (ns : List Node) (f : OpenNodeShown) (parts : List Entry) : Type 0 where
  pub segment : ShowsSegment ns f.section f.value (split_at_bars parts).first (split_at_equals (split_at_bars parts).first)
  pub further : ShowsParts ns f.parts (map part_of (split_at_bars parts).further)
  pub total : f.total ≡ length (entries_source parts)

pub data ShowsOpenNodes (ns : List Node) : List OpenNodeShown → List (List Entry) → Type 0 where
  no_open_nodes : ShowsOpenNodes ns [] []
  open_node_more : {f : OpenNodeShown} {parts : List Entry} {fs : List OpenNodeShown} {outer : List (List Entry)} → ShowsOpenNode ns f parts → ShowsOpenNodes ns fs outer → ShowsOpenNodes ns (f ∷ fs) (parts ∷ outer)

pub record ShowsLayout (ns : List Node) (l : LayoutShown) (parts : List Entry) (outer : List (List Entry)) (met : List Node) : Type 0 where
  pub open_node : ShowsOpenNode ns l.open_node parts
  pub around : ShowsOpenNodes ns l.outer outer
  pub nodes : ShowsNodes ns l.nodes met
