use Rattle.wk_life_laws.proofs.RunFacts.{run_continues, run_saves}
use Rattle.wk_life_laws.proofs.saves.a_run_is_one_history_of_saves.Goals as goal

pub returns-clause-saves : goal.returns-clause-saves
returns-clause-saves c = run_saves

pub returns-clause-continues : goal.returns-clause-continues
returns-clause-continues c = run_continues
