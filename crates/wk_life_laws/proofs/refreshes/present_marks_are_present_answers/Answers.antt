use Rattle.wk_life_laws.proofs.Marks.{agrees-now, drafted-now, rows-now, stored-now}
use Rattle.wk_life_laws.proofs.refreshes.present_marks_are_present_answers.Goals as goal

pub returns-clause-agrees : goal.returns-clause-agrees
returns-clause-agrees c = agrees-now

pub returns-clause-drafted : goal.returns-clause-drafted
returns-clause-drafted c = drafted-now

pub returns-clause-rows : goal.returns-clause-rows
returns-clause-rows c = rows-now

pub returns-clause-stored : goal.returns-clause-stored
returns-clause-stored c = stored-now
