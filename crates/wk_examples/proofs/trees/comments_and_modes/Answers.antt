use Rattle.std.proofs.Common.{refl}
use Rattle.wk_examples.specs.Computing.{computing}
use Rattle.wk_examples.proofs.trees.comments_and_modes.Goals as goal

pub returns-clause-comment : goal.returns-clause-comment
unfolding computing
returns-clause-comment c = refl

pub returns-clause-viewed : goal.returns-clause-viewed
unfolding computing
returns-clause-viewed c = refl

pub returns-clause-included : goal.returns-clause-included
unfolding computing
returns-clause-included c = refl

pub returns-clause-marks_in_a_comment : goal.returns-clause-marks_in_a_comment
unfolding computing
returns-clause-marks_in_a_comment c = refl
