use Rattle.wk_view_laws.proofs.RoundLemmas.{rounds-text, rounds-view}
use Rattle.wk_view_laws.proofs.rounds_come_to_an_end.Goals as goal

pub returns-clause-view : goal.returns-clause-view
returns-clause-view c = rounds-view

pub returns-clause-text : goal.returns-clause-text
returns-clause-text c = rounds-text
