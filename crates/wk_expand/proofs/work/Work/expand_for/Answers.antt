use Rattle.std.proofs.Common.{Option, Some, None, subst}
use Rattle.std.proofs.lemmas.Result.{IfOk-weaker}
use Rattle.wk_tree.specs.Parsed.{list_with}
use Rattle.wk_tree.specs.declared.item.NodeId.{NodeId}
use Rattle.wk_expand.specs.State.{current}
use Rattle.wk_expand.specs.Work.{IsFilled}
use Rattle.wk_expand.proofs.PartLaws.{some_of}
use Rattle.wk_expand.proofs.WorkLaws.{AreFilled, expands-end, expands-node, expands-waits}
use Rattle.wk_expand.proofs.work.Work.expand_for.Goals as goal

pub fill-requires : goal.fill-requires
fill-requires c =
    let g = c.requires.1 in
    some_of (list_with (current c.args.self.now.expander) c.args.list) g.rest_is.items g.rest_is.there

pub finished-requires : goal.finished-requires
finished-requires c = expands-waits c.args.self.now c.args.node c.args.waiting c.args.list c.args.before c.requires.0 c.requires.1

pub returns-in_ok-wait-in-Some : goal.returns-in_ok-wait-in-Some
returns-in_ok-wait-in-Some c =
    λ seen e g.
    let w = c.args.self.now in
    let filled : AreFilled w.expander c.args.list c.args.before (c.in_ok-at.at, Some c.in-Some.inner) c.fill.new.out = λ items k.
    subst (λ (n : Option NodeId). IsFilled (current w.expander) items 0 c.args.before (c.in_ok-at.at, n) c.fill.new.out) c.in-Some.is (c.in_ok-at.ensures items k)
    in
    expands-node seen e w c.wait.new.self c.args.node c.in-Some.inner c.args.waiting c.args.list c.args.before c.fill.new.out c.in_ok-at.at filled c.in_ok-wait-in-Some.ensures g

pub returns-in_ok-next-in-None : goal.returns-in_ok-next-in-None
returns-in_ok-next-in-None c =
    let w = c.args.self.now in
    let filled : AreFilled w.expander c.args.list c.args.before (c.in_ok-at.at, None) c.fill.new.out = λ items k.
    subst (λ (n : Option NodeId). IsFilled (current w.expander) items 0 c.args.before (c.in_ok-at.at, n) c.fill.new.out) c.in-None.is (c.in_ok-at.ensures items k)
    in
    IfOk-weaker c.follow.result _ _ (λ turn k seen e g.
    expands-end seen e w c.follow.new.self c.finished.new.self c.args.node c.args.waiting c.args.list c.args.before c.fill.new.out c.in_ok-at.at c.in_ok-next-in-None.next turn filled
    (λ q. c.in_ok-next-in-None.ensures seen q) (λ f h. k seen f h) g) c.follow.ensures
