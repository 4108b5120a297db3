use Rattle.std.proofs.Common.{◌≡◌, sym, ap, subst, ◌∙◌}
use Rattle.wk_tree.specs.declared.item.Item.{Item}
use Rattle.wk_tree_rules.specs.Tree.{node_length}
use Rattle.wk_subst.specs.Nodes.{IsThere, span_by}
use Rattle.wk_subst.proofs.NodeLaws.{node-by}
use Rattle.wk_subst.proofs.items.span_of.Goals as goal

pub returns-in-Node-clause-start : goal.returns-in-Node-clause-start
returns-in-Node-clause-start c =
    let tree = c.args.tree.now in
    let there = subst (λ (i : Item). IsThere tree i) c.in-Node.is c.requires in
    let h = node-by (λ n. (c.span.result.0 ≡ n.start) × (c.span.result.1 ≡ node_length n)) tree c.in-Node.node there c.span.ensures in
    h.0 ∙ ap (λ (i : Item). (span_by tree i).0) (sym c.in-Node.is)

pub returns-in-Node-clause-len : goal.returns-in-Node-clause-len
returns-in-Node-clause-len c =
    let tree = c.args.tree.now in
    let there = subst (λ (i : Item). IsThere tree i) c.in-Node.is c.requires in
    let h = node-by (λ n. (c.span.result.0 ≡ n.start) × (c.span.result.1 ≡ node_length n)) tree c.in-Node.node there c.span.ensures in
    h.1 ∙ ap (λ (i : Item). (span_by tree i).1) (sym c.in-Node.is)
