use Rattle.wk_tree_laws.proofs.ListLemmas.{tree-lists-in}
use Rattle.wk_tree_laws.proofs.trees.every_list_stands_in_the_text.Goals as goal

pub returns : goal.returns
returns c = tree-lists-in
