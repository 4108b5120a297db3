use Rattle.std.proofs.Common.{length, ap, ◌∙◌}
use Rattle.wk_subst.specs.Stack.{titles_of}
use Rattle.wk_subst.specs.declared.stack.Opened.{Opened}
use Rattle.wk_subst.proofs.StackLaws.{told-all, told-more}
use Rattle.wk_subst.proofs.stack.calls_in.Goals as goal

pub walk-preserved : goal.walk-preserved
walk-preserved c =
    let o : Opened = c.index-opened-at.result in
    told-more c.args.opened.now c.walk.at c.walk.count c.calls-count.result o c.walk-test.true
    (c.calls-count.ensures.is ∙ ap (λ (x : Opened). length (titles_of x.waiting)) c.index-opened-at.is) c.calls-count.ensures.most c.walk.invariant

pub returns : goal.returns
returns c = told-all c.args.opened.now c.walk.at c.walk.count c.walk-test.false c.walk.invariant
