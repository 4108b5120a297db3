use Rattle.wk_tree_laws.proofs.TreeLemmas.{tree-source}
use Rattle.wk_tree_laws.proofs.trees.a_tree_stands_for_the_selected_text.Goals as goal

pub returns : goal.returns
returns c = tree-source
