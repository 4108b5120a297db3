use Rattle.std.proofs.Common.{◌≡◌, IsUtf8, subst, ◌∙◌}
use Rattle.wk_tree_rules.specs.Tree.{node_length}
use Rattle.wk_subst.specs.Nodes.{node_at}
use Rattle.wk_subst.proofs.ItemLaws.{node-same, node-stands, node-utf8, node-within}
use Rattle.wk_subst.proofs.NodeLaws.{node-by}
use Rattle.wk_subst.proofs.items.node_text.Goals as goal

pub part_of-requires-clause-within : goal.part_of-requires-clause-within
part_of-requires-clause-within c =
    let tree = c.args.tree.now in
    let h = node-stands tree c.args.node c.requires (c.every_node_stands_where_it_says.ensures tree.mode tree.text) in
    let s = node-by (λ n. (c.span-start.result.0 ≡ n.start) × (c.span-start.result.1 ≡ node_length n)) tree c.args.node c.requires c.span-start.ensures in
    node-within tree (node_at tree c.args.node) h c.source.result.now c.source.ensures c.span-start.result.0 c.span-start.result.1 s.0 s.1

pub part_of-requires-clause-utf8 : goal.part_of-requires-clause-utf8
part_of-requires-clause-utf8 c =
    let tree = c.args.tree.now in
    let h = node-stands tree c.args.node c.requires (c.every_node_stands_where_it_says.ensures tree.mode tree.text) in
    let s = node-by (λ n. (c.span-start.result.0 ≡ n.start) × (c.span-start.result.1 ≡ node_length n)) tree c.args.node c.requires c.span-start.ensures in
    node-utf8 tree (node_at tree c.args.node) h c.source.result.now c.source.ensures c.span-start.result.0 c.span-start.result.1 s.0 s.1
    (c.what_is_selected_of_utf8_is_utf8.ensures tree.mode tree.text (subst IsUtf8 (c.as_str-text.ensures.value ∙ c.text.ensures) c.as_str-text.utf8))

pub returns : goal.returns
returns c =
    let tree = c.args.tree.now in
    let h = node-stands tree c.args.node c.requires (c.every_node_stands_where_it_says.ensures tree.mode tree.text) in
    let s = node-by (λ n. (c.span-start.result.0 ≡ n.start) × (c.span-start.result.1 ≡ node_length n)) tree c.args.node c.requires c.span-start.ensures in
    c.part_of.ensures ∙ node-same tree (node_at tree c.args.node) h c.source.result.now c.source.ensures c.span-start.result.0 c.span-start.result.1 s.0 s.1
