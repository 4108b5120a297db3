use Rattle.wk_view_laws.proofs.PlanLemmas.{run-and_then}
use Rattle.wk_view_laws.proofs.plans_go_on.Goals as goal

pub returns : goal.returns
returns c = run-and_then
