use Rattle.wk_tree_laws.proofs.ListLemmas.{tree-items-in}
use Rattle.wk_tree_laws.proofs.trees.every_item_stands_where_it_says.Goals as goal

pub returns : goal.returns
returns c = tree-items-in
