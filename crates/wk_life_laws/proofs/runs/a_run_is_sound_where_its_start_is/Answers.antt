use Rattle.wk_life_laws.proofs.RunFacts.{run_sound}
use Rattle.wk_life_laws.proofs.runs.a_run_is_sound_where_its_start_is.Goals as goal

pub returns : goal.returns
returns c = run_sound
