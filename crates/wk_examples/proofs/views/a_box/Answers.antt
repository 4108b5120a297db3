use Rattle.std.proofs.Common.{refl}
use Rattle.wk_examples.specs.Computing.{computing}
use Rattle.wk_examples.proofs.views.a_box.Goals as goal

pub returns-clause-filled : goal.returns-clause-filled
unfolding computing
returns-clause-filled c = refl

pub returns-clause-nothing_filled : goal.returns-clause-nothing_filled
unfolding computing
returns-clause-nothing_filled c = refl
