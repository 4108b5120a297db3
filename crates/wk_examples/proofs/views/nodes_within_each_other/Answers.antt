use Rattle.std.proofs.Common.{refl}
use Rattle.wk_examples.specs.Computing.{computing}
use Rattle.wk_examples.proofs.views.nodes_within_each_other.Goals as goal

pub returns-clause-two_hundred_open : goal.returns-clause-two_hundred_open
unfolding computing
returns-clause-two_hundred_open c = refl

pub returns-clause-one_fewer_open : goal.returns-clause-one_fewer_open
unfolding computing
returns-clause-one_fewer_open c = refl

pub returns-clause-height : goal.returns-clause-height
unfolding computing
returns-clause-height c = refl
