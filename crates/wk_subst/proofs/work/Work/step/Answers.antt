use Rattle.std.proofs.Common.{Option, subst}
use Rattle.wk_tree.specs.Parsed.{ParsedText}
use Rattle.wk_tree.specs.declared.item.NodeId.{NodeId}
use Rattle.wk_subst.specs.Nodes.{IsFilled}
use Rattle.wk_subst.specs.declared.work.Work.{Work}
use Rattle.wk_subst.proofs.StepLaws.{end-makes, stays-is}
use Rattle.wk_subst.proofs.work.Work.step.Goals as goal

pub returns-in-None : goal.returns-in-None
returns-in-None c =
    let w : Work = c.args.self.now in
    let stays = c.is_none-stays.result in
    let at = c.in_ok-at.at in
    let out = c.fill.new.out in
    let filled = subst (λ (t : ParsedText). IsFilled t w.list w.at stays w.out (at, c.in_ok-at.node) out) c.parsed-tree.ensures c.in_ok-at.ensures in
    let ended = subst (λ (n : Option NodeId). IsFilled w.level.tree w.list w.at stays w.out (at, n) out) c.in_default.is filled in
    end-makes w stays (stays-is w.level.bound stays c.is_none-stays.ensures) at out c.pop.new.self ended c.in-None.ensures
