use Rattle.wk_tree_laws.proofs.SelectionLemmas.{selected-text}
use Rattle.wk_tree_laws.proofs.TextTreeLemmas.{tree-texts}
use Rattle.wk_tree_laws.proofs.trees.every_item_of_utf8_is_utf8.Goals as goal

pub returns : goal.returns
returns c = λ mode text u. tree-texts mode text (selected-text mode text u)
