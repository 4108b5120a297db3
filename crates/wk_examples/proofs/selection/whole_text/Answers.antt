use Rattle.std.proofs.Common.{refl}
use Rattle.wk_examples.specs.Computing.{computing}
use Rattle.wk_examples.proofs.selection.whole_text.Goals as goal

pub returns-clause-viewed : goal.returns-clause-viewed
unfolding computing
returns-clause-viewed c = refl

pub returns-clause-unclosed : goal.returns-clause-unclosed
unfolding computing
returns-clause-unclosed c = refl

pub returns-clause-other_case : goal.returns-clause-other_case
unfolding computing
returns-clause-other_case c = refl

pub returns-clause-with_a_space : goal.returns-clause-with_a_space
unfolding computing
returns-clause-with_a_space c = refl
