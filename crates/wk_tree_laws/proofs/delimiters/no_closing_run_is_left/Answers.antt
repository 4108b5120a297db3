use Rattle.wk_tree_laws.proofs.TreeLemmas.{reduced-found}
use Rattle.wk_tree_laws.proofs.delimiters.no_closing_run_is_left.Goals as goal

pub returns : goal.returns
returns c = reduced-found
