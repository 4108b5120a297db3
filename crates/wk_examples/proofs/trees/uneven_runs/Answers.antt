use Rattle.std.proofs.Common.{refl}
use Rattle.wk_examples.specs.Computing.{computing}
use Rattle.wk_examples.proofs.trees.uneven_runs.Goals as goal

pub returns-clause-longer_opening : goal.returns-clause-longer_opening
unfolding computing
returns-clause-longer_opening c = refl

pub returns-clause-longer_closing : goal.returns-clause-longer_closing
unfolding computing
returns-clause-longer_closing c = refl

pub returns-clause-shared_opening : goal.returns-clause-shared_opening
unfolding computing
returns-clause-shared_opening c = refl

pub returns-clause-shared_closing : goal.returns-clause-shared_closing
unfolding computing
returns-clause-shared_closing c = refl

pub returns-clause-three_and_two : goal.returns-clause-three_and_two
unfolding computing
returns-clause-three_and_two c = refl

pub returns-clause-two_and_three : goal.returns-clause-two_and_three
unfolding computing
returns-clause-two_and_three c = refl
