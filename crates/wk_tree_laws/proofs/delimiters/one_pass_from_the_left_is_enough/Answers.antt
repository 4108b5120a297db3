use Rattle.wk_tree_laws.proofs.OnePassLemmas.{passed-all}
use Rattle.wk_tree_laws.proofs.TreeLemmas.{pieces_of-sound}
use Rattle.wk_tree_laws.proofs.delimiters.one_pass_from_the_left_is_enough.Goals as goal
use Rattle.wk_tree_rules.specs.Reduction.{pieces_of}

pub returns : goal.returns
returns c = λ mode text. passed-all (pieces_of mode text) (pieces_of-sound mode text)
