use Rattle.std.proofs.Common.{refl}
use Rattle.wk_examples.specs.Computing.{computing}
use Rattle.wk_examples.proofs.trees.runs_of_braces.Goals as goal

pub returns-clause-two : goal.returns-clause-two
unfolding computing
returns-clause-two c = refl

pub returns-clause-three : goal.returns-clause-three
unfolding computing
returns-clause-three c = refl

pub returns-clause-four : goal.returns-clause-four
unfolding computing
returns-clause-four c = refl

pub returns-clause-five : goal.returns-clause-five
unfolding computing
returns-clause-five c = refl

pub returns-clause-six : goal.returns-clause-six
unfolding computing
returns-clause-six c = refl

pub returns-clause-seven : goal.returns-clause-seven
unfolding computing
returns-clause-seven c = refl

pub returns-clause-eight : goal.returns-clause-eight
unfolding computing
returns-clause-eight c = refl

pub returns-clause-nine : goal.returns-clause-nine
unfolding computing
returns-clause-nine c = refl
