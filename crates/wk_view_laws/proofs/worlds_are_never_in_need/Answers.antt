use Rattle.wk_view_laws.proofs.PlanLemmas.{IsDone-run}
use Rattle.wk_view_laws.proofs.worlds_are_never_in_need.Goals as goal

pub returns-clause-view : goal.returns-clause-view
returns-clause-view c = λ pages page. IsDone-run pages _ _

pub returns-clause-text : goal.returns-clause-text
returns-clause-text c = λ pages page text. IsDone-run pages _ _
