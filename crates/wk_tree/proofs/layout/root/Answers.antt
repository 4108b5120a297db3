use Rattle.std.proofs.Common.{take, ap, ◌∙◌}
use Rattle.wk_tree.proofs.StackLemmas.{another-items}
use Rattle.wk_tree.proofs.layout.root.Goals as goal

pub returns : goal.returns
returns c =
    ap (take c.in_ok-len.len) c.reverse.ensures.items
    ∙ another-items c.args.section.first c.args.section.others c.in_ok-len.len c.in-Some.first c.args.items.now.items c.push.new.self.items c.in-Some.is c.in_ok-len.ensures c.in_ok-push.ensures.items
