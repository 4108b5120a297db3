-- A tree that is laid out.
use Rattle.std.specs.Prelude.{List}
use Rattle.wk_tree.specs.Laid.{NodeShown}
use Rattle.wk_tree.specs.Shown.{ShowsItems, ShowsNodes}
use Rattle.wk_tree.specs.declared.item.Item.{Item}
use Rattle.wk_tree_rules.specs.Tree.{nodes}
use Rattle.wk_tree_rules.specs.Trees.{Item as TreeItem, merged}

-- the root's list and the nodes of some items show the items, plain text of which goes together
pub record IsLaidAs (items : List TreeItem) (root : List Item) (found : List NodeShown) : Type 0 where
  pub root_shows : ShowsItems (nodes (merged items)) root (merged items)
  pub nodes_show : ShowsNodes (nodes (merged items)) found (nodes (merged items))
