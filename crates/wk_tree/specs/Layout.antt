-- How tokens are laid out in lists, from the last to the first.
use Rattle.std.specs.Prelude.{◌≡◌, ℕ, ◌+◌, Bool, if◌then◌else◌, List, [], ◌∷◌, ◌++◌, length, map, reverse, take, drop, Option, Some, None, option_map}
use Rattle.wk_tree.specs.Laid.{PartShown, NodeShown, AllLists, part_of, node_of}
use Rattle.wk_tree.specs.declared.item.Item.{Item}
use Rattle.wk_tree.specs.declared.item.Item.TheVariants as code
use Rattle.wk_tree.specs.declared.layout.OpenNode.{OpenNode}
use Rattle.wk_tree.specs.declared.layout.Layout.{Layout}
use Rattle.wk_tree.specs.declared.laid.Lists.{Lists}
use Rattle.wk_tree.specs.declared.laid.PartLists.{PartLists}
use Rattle.wk_tree.specs.declared.layout.Section.{Section}
use Rattle.wk_tree.specs.declared.token.Token.{Token}
use Rattle.wk_tree.specs.declared.token.Token.TheVariants.{Plain, Sealed, Nothing, Bar, Equals, NodeStart, NodeEnd, Fill}

-- ---- what is kept, in the order of the text

-- items, and how many bytes they stand for
pub record SectionShown : Type 0 where
  pub items : List Item
  pub len : ℕ

-- an equals sign, and what stands behind it
pub record ValueShown : Type 0 where
  pub equals : ℕ
  pub section : SectionShown

-- what was met of a node: the items up to the next equals sign or bar, the value behind them, the parts behind it, and
-- how many bytes all stand for
pub record OpenNodeShown : Type 0 where
  pub section : SectionShown
  pub value : Option ValueShown
  pub parts : List PartShown
  pub total : ℕ

-- the innermost node that isn't met wholly, those around it, and the nodes that are
pub record LayoutShown : Type 0 where
  pub open_node : OpenNodeShown
  pub outer : List OpenNodeShown
  pub nodes : List NodeShown

-- ---- what the code keeps

-- a list that another begins with
pub record Begins {X : Type 0} (xs ys : List X) : Type 0 where
  pub rest : List X
  pub is : ys ≡ xs ++ rest

-- the first item, and so many others, which stand uppermost on a stack
abbrev pub items_by : Option Item → ℕ → List Item → List Item
items_by None others stack = []
items_by (Some i) others stack = i ∷ take others stack

-- what stands under the others
abbrev pub under_by : Option Item → ℕ → List Item → List Item
under_by None others stack = stack
under_by (Some i) others stack = drop others stack

abbrev pub items_of : Section → List Item → List Item
items_of section stack = items_by section.first section.others stack

abbrev pub under_section : Section → List Item → List Item
under_section section stack = under_by section.first section.others stack

abbrev pub section_of : Section → List Item → SectionShown
section_of section stack = record { items = items_of section stack; len = section.len }

-- the place of an equals sign, and what stands behind it
abbrev pub value_by : Section → List Item → ℕ → ValueShown
value_by section stack at = record { equals = at; section = section_of section stack }

-- what stands under the items behind an equals sign, if there is one
abbrev pub under_value : Option ℕ → Section → List Item → List Item
under_value None value stack = stack
under_value (Some at) value stack = under_section value stack

abbrev pub under_node : OpenNode → List Item → List Item
under_node open_node stack = under_value open_node.equals open_node.value (under_section open_node.section stack)

abbrev pub value_of : OpenNode → List Item → Option ValueShown
value_of open_node stack = option_map (value_by open_node.value (under_section open_node.section stack)) open_node.equals

pub record BeginsAll (lists : Lists) (all : AllLists) : Type 0 where
  pub items : Begins lists.items.items all.items
  pub parts : Begins lists.parts.items all.parts

-- an open node, by the stacks of items and of parts
abbrev pub open_node_of : List Item → List Item → List PartLists → OpenNode → OpenNodeShown
open_node_of all items parts open_node = record {
  section = section_of open_node.section items;
  value = value_of open_node items;
  parts = map (part_of all) (take open_node.parts parts);
  total = open_node.total;
}

-- open nodes, the innermost first
abbrev pub open_nodes_of : List Item → List Item → List PartLists → List OpenNode → List OpenNodeShown
open_nodes_of all items parts [] = []
open_nodes_of all items parts (open_node ∷ open_nodes) =
    open_node_of all items parts open_node ∷ open_nodes_of all (under_node open_node items) (drop open_node.parts parts) open_nodes

-- the stacks, the uppermost first
abbrev pub layout_by : AllLists → List Item → List PartLists → Layout → LayoutShown
layout_by all items parts layout = record {
  open_node = open_node_of all.items items parts layout.open_node;
  outer = open_nodes_of all.items (under_node layout.open_node items) (drop layout.open_node.parts parts) (reverse layout.outer.items);
  nodes = map (node_of all) (reverse layout.nodes.items);
}

abbrev pub layout_of : AllLists → Layout → LayoutShown
layout_of all layout = layout_by all (reverse layout.stacks.items.items) (reverse layout.stacks.parts.items) layout

-- what is laid out so far, whatever the lists will be in the end
abbrev pub IsLayout : Layout → LayoutShown → Type 0
IsLayout layout shown = (all : AllLists) → BeginsAll layout.lists all → layout_of all layout ≡ shown

-- ---- the steps

abbrev pub no_section : SectionShown
no_section = record { items = []; len = 0 }

abbrev pub no_open_node : OpenNodeShown
no_open_node = record { section = no_section; value = None; parts = []; total = 0 }

-- an item before others; plain text goes together
abbrev pub put : Item → List Item → List Item
put (code.Plain start len) (code.Plain next more ∷ items) = code.Plain start (len + more) ∷ items
put i items = i ∷ items

-- items before others, the last of them first
abbrev pub put_each : List Item → List Item → List Item
put_each [] more = more
put_each (i ∷ items) more = put i (put_each items more)

-- items before an equals sign that is plain, and what stands behind it
abbrev pub joined : SectionShown → Option ValueShown → SectionShown
joined section None = section
joined section (Some value) = record {
  items = put_each section.items (put (code.Plain value.equals 1) value.section.items);
  len = section.len + (1 + value.section.len);
}

abbrev pub with_item : Item → ℕ → OpenNodeShown → OpenNodeShown
with_item i len open_node = record open_node {
  section = record { items = put i open_node.section.items; len = len + open_node.section.len };
  total = len + open_node.total;
}

abbrev pub with_equals : ℕ → OpenNodeShown → OpenNodeShown
with_equals start open_node = record open_node {
  section = no_section;
  value = Some (record { equals = start; section = joined open_node.section open_node.value });
  total = 1 + open_node.total;
}

abbrev pub new_part : ℕ → SectionShown → Option ValueShown → PartShown
new_part start section None = record { name = None; value = section.items; start = start + 1; len = section.len }
new_part start section (Some value) = record { name = Some section.items; value = value.section.items; start = value.equals + 1; len = value.section.len }

abbrev pub with_bar : ℕ → OpenNodeShown → OpenNodeShown
with_bar start open_node = record {
  section = no_section;
  value = None;
  parts = new_part start open_node.section open_node.value ∷ open_node.parts;
  total = 1 + open_node.total;
}

abbrev pub braces_of : Bool → ℕ
braces_of argument = if argument then 6 else 4

abbrev pub new_node : Bool → ℕ → OpenNodeShown → NodeShown
new_node argument start open_node = record {
  argument = argument;
  start = start;
  len = braces_of argument + open_node.total;
  title = (joined open_node.section open_node.value).items;
  parts = open_node.parts;
}

-- the open_node around the innermost
abbrev pub first_open_node : List OpenNodeShown → OpenNodeShown
first_open_node [] = no_open_node
first_open_node (open_node ∷ open_nodes) = open_node

abbrev pub other_open_nodes : List OpenNodeShown → List OpenNodeShown
other_open_nodes [] = []
other_open_nodes (open_node ∷ open_nodes) = open_nodes

abbrev pub with_node : Bool → ℕ → LayoutShown → LayoutShown
with_node argument start layout = record {
  open_node = with_item (code.Node (record { 0 = length layout.nodes })) (new_node argument start layout.open_node).len (first_open_node layout.outer);
  outer = other_open_nodes layout.outer;
  nodes = new_node argument start layout.open_node ∷ layout.nodes;
}

abbrev pub with_token : Token → LayoutShown → LayoutShown
with_token (Plain start len) layout = record layout { open_node = with_item (code.Plain start len) len layout.open_node }
with_token (Sealed start len) layout = record layout { open_node = with_item (code.Sealed start len) len layout.open_node }
with_token (Nothing start len) layout = record layout { open_node = with_item (code.Nothing start len) len layout.open_node }
with_token (Bar start) layout = record layout { open_node = with_bar start layout.open_node }
with_token (Equals start) layout = record layout { open_node = with_equals start layout.open_node }
with_token (NodeStart argument start) layout = with_node argument start layout
with_token NodeEnd layout = record layout { open_node = no_open_node; outer = layout.open_node ∷ layout.outer }
with_token Fill layout = layout

-- tokens, the last first
abbrev pub laid : List Token → LayoutShown
laid [] = record { open_node = no_open_node; outer = []; nodes = [] }
laid (token ∷ tokens) = with_token token (laid tokens)
