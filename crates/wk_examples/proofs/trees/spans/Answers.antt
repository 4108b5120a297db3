use Rattle.std.proofs.Common.{refl}
use Rattle.wk_examples.specs.Computing.{computing}
use Rattle.wk_examples.proofs.trees.spans.Goals as goal

pub returns-clause-within : goal.returns-clause-within
unfolding computing
returns-clause-within c = refl

pub returns-clause-left_over : goal.returns-clause-left_over
unfolding computing
returns-clause-left_over c = refl
