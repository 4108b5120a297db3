use Rattle.wk_life_laws.proofs.Told.{no_fewer-stepped, told-now, told-replayed, told-stepped}
use Rattle.wk_life_laws.proofs.starts.a_start_is_told_by_the_present.Goals as goal

pub returns-clause-now : goal.returns-clause-now
returns-clause-now c = told-now

pub returns-clause-stepped : goal.returns-clause-stepped
returns-clause-stepped c = told-stepped

pub returns-clause-no_fewer : goal.returns-clause-no_fewer
returns-clause-no_fewer c = no_fewer-stepped

pub returns-clause-replayed : goal.returns-clause-replayed
returns-clause-replayed c = told-replayed
