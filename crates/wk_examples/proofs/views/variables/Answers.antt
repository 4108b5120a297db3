use Rattle.std.proofs.Common.{refl}
use Rattle.wk_examples.specs.Computing.{computing}
use Rattle.wk_examples.proofs.views.variables.Goals as goal

pub returns-clause-bar : goal.returns-clause-bar
unfolding computing
returns-clause-bar c = refl

pub returns-clause-with_a_part : goal.returns-clause-with_a_part
unfolding computing
returns-clause-with_a_part c = refl

pub returns-clause-other_case : goal.returns-clause-other_case
unfolding computing
returns-clause-other_case c = refl

pub returns-clause-main_namespace : goal.returns-clause-main_namespace
unfolding computing
returns-clause-main_namespace c = refl

pub returns-clause-sealed : goal.returns-clause-sealed
unfolding computing
returns-clause-sealed c = refl

pub returns-clause-nothing_is_read : goal.returns-clause-nothing_is_read
unfolding computing
returns-clause-nothing_is_read c = refl
