use Rattle.std.proofs.Common.{refl}
use Rattle.wk_script_rules.specs.Computing.{computing as scripts}
use Rattle.wk_examples.proofs.refreshes.tickets_that_are_out.Goals as goal

pub returns-clause-restart : goal.returns-clause-restart
unfolding scripts
returns-clause-restart c = refl

pub returns-clause-end : goal.returns-clause-end
unfolding scripts
returns-clause-end c = refl
