use Rattle.std.proofs.Common.{refl}
use Rattle.wk_examples.specs.Computing.{computing}
use Rattle.wk_examples.proofs.views.costs.Goals as goal

pub returns-clause-each_node : goal.returns-clause-each_node
unfolding computing
returns-clause-each_node c = refl

pub returns-clause-inclusion : goal.returns-clause-inclusion
unfolding computing
returns-clause-inclusion c = refl

pub returns-clause-argument : goal.returns-clause-argument
unfolding computing
returns-clause-argument c = refl

pub returns-clause-redirect : goal.returns-clause-redirect
unfolding computing
returns-clause-redirect c = refl
