use Rattle.std.proofs.Common.{refl}
use Rattle.wk_subst_rules.specs.Computing.{computing}
use Rattle.wk_subst_examples.proofs.sums.Goals as goal

pub returns-clause-just_enough : goal.returns-clause-just_enough
unfolding computing
returns-clause-just_enough c = refl

pub returns-clause-too_many : goal.returns-clause-too_many
unfolding computing
returns-clause-too_many c = refl

pub returns-clause-inner : goal.returns-clause-inner
unfolding computing
returns-clause-inner c = refl

pub returns-clause-inner_too_many : goal.returns-clause-inner_too_many
unfolding computing
returns-clause-inner_too_many c = refl
