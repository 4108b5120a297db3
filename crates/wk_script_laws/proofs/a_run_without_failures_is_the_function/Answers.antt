use Rattle.wk_script_laws.proofs.Runs.{function-replies, function-after}
use Rattle.wk_script_laws.proofs.a_run_without_failures_is_the_function.Goals as goal

pub returns-clause-replies : goal.returns-clause-replies
returns-clause-replies c = function-replies

pub returns-clause-after : goal.returns-clause-after
returns-clause-after c = function-after
