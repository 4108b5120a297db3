use Rattle.std.proofs.Common.{[]}
use Rattle.wk_view_laws.proofs.PlanLemmas.{IsDone-run}
use Rattle.wk_subst_laws.proofs.worlds_are_never_in_need.Goals as goal

pub returns : goal.returns
returns c = λ pages text. IsDone-run pages _ []
