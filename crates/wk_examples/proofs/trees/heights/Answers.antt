use Rattle.std.proofs.Common.{refl}
use Rattle.wk_examples.specs.Computing.{computing}
use Rattle.wk_examples.proofs.trees.heights.Goals as goal

pub returns-clause-hundred : goal.returns-clause-hundred
unfolding computing
returns-clause-hundred c = refl

pub returns-clause-hundred_and_two : goal.returns-clause-hundred_and_two
unfolding computing
returns-clause-hundred_and_two c = refl
