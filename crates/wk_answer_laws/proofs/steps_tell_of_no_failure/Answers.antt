use Rattle.wk_answer_laws.proofs.Calm.{step-no-failure}
use Rattle.wk_answer_laws.proofs.steps_tell_of_no_failure.Goals as goal

pub returns : goal.returns
returns c = step-no-failure
