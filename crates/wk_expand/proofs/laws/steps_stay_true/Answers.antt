use Rattle.wk_expand.proofs.RoundLaws.{done-longer, needed-longer, read-longer}
use Rattle.wk_expand.proofs.laws.steps_stay_true.Goals as goal

pub returns-clause-done : goal.returns-clause-done
returns-clause-done c = done-longer

pub returns-clause-needed : goal.returns-clause-needed
returns-clause-needed c = needed-longer

pub returns-clause-read : goal.returns-clause-read
returns-clause-read c = read-longer
