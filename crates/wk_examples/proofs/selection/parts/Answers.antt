use Rattle.std.proofs.Common.{refl}
use Rattle.wk_examples.specs.Computing.{computing}
use Rattle.wk_examples.proofs.selection.parts.Goals as goal

pub returns-clause-one : goal.returns-clause-one
unfolding computing
returns-clause-one c = refl

pub returns-clause-two : goal.returns-clause-two
unfolding computing
returns-clause-two c = refl

pub returns-clause-nested : goal.returns-clause-nested
unfolding computing
returns-clause-nested c = refl

pub returns-clause-empty : goal.returns-clause-empty
unfolding computing
returns-clause-empty c = refl

pub returns-clause-in_a_comment : goal.returns-clause-in_a_comment
unfolding computing
returns-clause-in_a_comment c = refl
