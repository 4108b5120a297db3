use Rattle.wk_tree_laws.proofs.SelectionLemmas.{selected-text}
use Rattle.wk_tree_laws.proofs.selection.what_is_selected_of_utf8_is_utf8.Goals as goal

pub returns : goal.returns
returns c = selected-text
