use Rattle.wk_life_laws.proofs.RunFacts.{run_whole}
use Rattle.wk_life_laws.proofs.runs.a_run_is_one_with_any_keeper.Goals as goal

pub returns : goal.returns
returns c = run_whole
