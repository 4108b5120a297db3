use Rattle.wk_tree_laws.proofs.TreeLemmas.{tree-height}
use Rattle.wk_tree_laws.proofs.trees.no_tree_is_higher_than_100.Goals as goal

pub returns : goal.returns
returns c = tree-height
