use Rattle.std.proofs.Common.{refl}
use Rattle.wk_examples.specs.Computing.{computing}
use Rattle.wk_examples.proofs.views.frames.Goals as goal

pub returns-clause-three_levels : goal.returns-clause-three_levels
unfolding computing
returns-clause-three_levels c = refl

pub returns-clause-unbound_in_the_caller : goal.returns-clause-unbound_in_the_caller
unfolding computing
returns-clause-unbound_in_the_caller c = refl

pub returns-clause-not_in_the_callee : goal.returns-clause-not_in_the_callee
unfolding computing
returns-clause-not_in_the_callee c = refl

pub returns-clause-the_viewed_page : goal.returns-clause-the_viewed_page
unfolding computing
returns-clause-the_viewed_page c = refl
