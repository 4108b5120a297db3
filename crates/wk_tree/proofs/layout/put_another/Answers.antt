use Rattle.std.proofs.Common.{◌∷◌, ap}
use Rattle.wk_tree.proofs.StackLemmas.{another-items, another-under}
use Rattle.wk_tree.proofs.layout.put_another.Goals as goal

pub returns-clause-items : goal.returns-clause-items
returns-clause-items c =
    ap (λ items. c.args.item ∷ items)
    (another-items c.args.section.now.first c.args.section.now.others c.in_ok-others.others c.args.first c.args.stack.now.items c.push.new.self.items c.requires c.in_ok-others.ensures c.in_ok-push.ensures.items)

pub returns-clause-under : goal.returns-clause-under
returns-clause-under c = another-under c.args.section.now.first c.args.section.now.others c.in_ok-others.others c.args.first c.args.stack.now.items c.push.new.self.items c.requires c.in_ok-others.ensures c.in_ok-push.ensures.items
