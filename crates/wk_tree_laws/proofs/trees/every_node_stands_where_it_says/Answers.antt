use Rattle.wk_tree_laws.proofs.ListLemmas.{tree-nodes-in}
use Rattle.wk_tree_laws.proofs.trees.every_node_stands_where_it_says.Goals as goal

pub returns : goal.returns
returns c = tree-nodes-in
