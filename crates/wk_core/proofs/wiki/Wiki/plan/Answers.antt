use Rattle.std.proofs.Common.{subst}
use Rattle.std.specs.Prelude.{IfOk}
use Rattle.wk_revs.specs.Edit.{edit_asked}
use Rattle.wk_core.specs.Plans.{IsPlanned}
use Rattle.wk_core.specs.Seen.{WikiSeen}
use Rattle.wk_core.proofs.wiki.Wiki.plan.Goals as goal

pub returns : goal.returns
returns g c = subst (λ (w : WikiSeen g.row.K.Denot). IfOk c.plan.result (IsPlanned w (edit_asked c.args.edit.now))) c.self.view_is c.plan.ensures
