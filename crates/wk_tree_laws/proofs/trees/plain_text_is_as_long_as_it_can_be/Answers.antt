use Rattle.wk_tree_laws.proofs.TextTreeLemmas.{tree-lists-merged}
use Rattle.wk_tree_laws.proofs.trees.plain_text_is_as_long_as_it_can_be.Goals as goal

pub returns : goal.returns
returns c = tree-lists-merged
