use Rattle.std.proofs.Common.{refl}
use Rattle.wk_subst_rules.specs.Computing.{computing}
use Rattle.wk_subst_examples.proofs.forty_calls.Goals as goal

pub returns : goal.returns
unfolding computing
returns c = refl
