use Rattle.std.proofs.Common.{refl}
use Rattle.wk_subst_rules.specs.Computing.{computing}
use Rattle.wk_subst_examples.proofs.calls_within_themselves.Goals as goal

pub returns-clause-one : goal.returns-clause-one
unfolding computing
returns-clause-one c = refl

pub returns-clause-two : goal.returns-clause-two
unfolding computing
returns-clause-two c = refl

pub returns-clause-nothing_more_is_asked : goal.returns-clause-nothing_more_is_asked
unfolding computing
returns-clause-nothing_more_is_asked c = refl
