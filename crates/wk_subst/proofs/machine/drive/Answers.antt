use Rattle.std.proofs.Common.{[], sym, subst}
use Rattle.wk_view_rules.specs.Worlds.{Seen}
use Rattle.wk_subst.specs.Paused.{IsLeft}
use Rattle.wk_subst.specs.declared.work.Now.TheVariants.{List as ListNow}
use Rattle.wk_subst.specs.declared.work.Work.{Work}
use Rattle.wk_subst.proofs.MachineLaws.{left-begun}
use Rattle.wk_subst.proofs.machine.drive.Goals as goal

pub go_on-requires-2-clause-left : goal.go_on-requires-2-clause-left
go_on-requires-2-clause-left c =
    let saved = c.args.saved.now in
    let work : Work = c.in_ok-work.work in
    subst (λ (r : Seen). IsLeft saved work ListNow r) (sym c.new-reads.ensures)
    (subst (λ (w : Work). IsLeft saved w ListNow []) (sym c.in_ok-work.ensures) (left-begun saved work))
