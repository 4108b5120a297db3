-- A tree that is laid out.
use Rattle.std.specs.Prelude.{ℕ, Bool, List, [], ◌∷◌, map, reverse, take, drop, Option, option_map}
use Rattle.wk_tree.specs.declared.item.Item.{Item}
use Rattle.wk_tree.specs.declared.laid.Laid.{Laid}
use Rattle.wk_tree.specs.declared.laid.Listed.{Listed}
use Rattle.wk_tree.specs.declared.laid.Listed.TheVariants.{Empty, One, Many}
use Rattle.wk_tree.specs.declared.laid.NodeLists.{NodeLists}
use Rattle.wk_tree.specs.declared.laid.PartLists.{PartLists}
use Rattle.wk_tree.specs.declared.laid.Range.{Range}

-- ---- what its lists show, in the order of the text

pub record PartShown : Type 0 where
  pub name : Option (List Item)
  pub value : List Item
  pub start : ℕ
  pub len : ℕ

pub record NodeShown : Type 0 where
  pub argument : Bool
  pub start : ℕ
  pub len : ℕ
  pub title : List Item
  pub parts : List PartShown

-- ---- what the code keeps

-- those of all that stand in a range
abbrev pub ranged : {X : Type 0} → List X → Range → List X
ranged all range = take range.len (drop range.start all)

-- the items of a list, of which more than one stand among all
abbrev pub listed : List Item → Listed → List Item
listed all Empty = []
listed all (One i) = i ∷ []
listed all (Many range) = ranged all range

-- all lists of a tree of more than one item, and all parts
pub record AllLists : Type 0 where
  pub items : List Item
  pub parts : List PartLists

abbrev pub part_of : List Item → PartLists → PartShown
part_of all part = record { name = option_map (listed all) part.name; value = listed all part.value; start = part.start; len = part.len }

abbrev pub node_of : AllLists → NodeLists → NodeShown
node_of all n = record { argument = n.argument; start = n.start; len = n.len; title = listed all.items n.title; parts = map (part_of all.items) (ranged all.parts n.parts) }

-- the lists of a tree that is laid out
abbrev pub all_of : Laid → AllLists
all_of laid = record { items = laid.lists.items.items; parts = laid.lists.parts.items }

abbrev pub root_of : Laid → List Item
root_of laid = listed laid.root_items.items laid.root

abbrev pub found_nodes : Laid → List NodeShown
found_nodes laid = map (node_of (all_of laid)) (reverse laid.nodes.items)
