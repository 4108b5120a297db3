use Rattle.wk_life_laws.proofs.Marks.{drafted-honest, formed-now, honest-now}
use Rattle.wk_life_laws.proofs.refreshes.present_answers_are_honest.Goals as goal

pub returns-clause-honest : goal.returns-clause-honest
returns-clause-honest c = honest-now

pub returns-clause-formed : goal.returns-clause-formed
returns-clause-formed c = formed-now

pub returns-clause-drafted : goal.returns-clause-drafted
returns-clause-drafted c = drafted-honest
