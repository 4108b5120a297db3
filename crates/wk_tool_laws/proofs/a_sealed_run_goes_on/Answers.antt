use Rattle.wk_tool_laws.proofs.JobsAdded.{adds-jobs}
use Rattle.wk_tool_laws.proofs.a_sealed_run_goes_on.Goals as goal

pub returns : goal.returns
returns c = λ old new before after state last run later sealed. adds-jobs old new before after state last run later sealed
