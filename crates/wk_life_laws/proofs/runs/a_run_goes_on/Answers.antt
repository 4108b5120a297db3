use Rattle.wk_life_laws.proofs.RunFacts.{run_next}
use Rattle.wk_life_laws.proofs.runs.a_run_goes_on.Goals as goal

pub returns : goal.returns
returns c = run_next
