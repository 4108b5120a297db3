use Rattle.std.proofs.Common.{Some, take, reverse, refl, ◌∙◌}
use Rattle.wk_tree.proofs.StackLemmas.{another-items, another-under, begins-before}
use Rattle.wk_tree.proofs.layout.many_in_order.Goals as goal

pub returns-clause-list : goal.returns-clause-list
returns-clause-list c = λ all begins.
    c.in_ok-range.ensures.range all begins
    ∙ another-items (Some c.args.first) c.args.others c.in_ok-count.count c.args.first c.args.stack.now.items c.push.new.self.items refl c.in_ok-count.ensures c.in_ok-push.ensures.items

pub returns-clause-begins : goal.returns-clause-begins
returns-clause-begins c = λ all begins.
    begins-before c.args.list.now.items (take c.in_ok-count.count (reverse c.push.new.self.items)) c.unstack.new.list.items all c.in_ok-range.ensures.list begins

pub returns-clause-under : goal.returns-clause-under
returns-clause-under c =
    c.in_ok-range.ensures.stack
    ∙ another-under (Some c.args.first) c.args.others c.in_ok-count.count c.args.first c.args.stack.now.items c.push.new.self.items refl c.in_ok-count.ensures c.in_ok-push.ensures.items
