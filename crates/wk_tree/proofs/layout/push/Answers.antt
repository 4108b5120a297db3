use Rattle.std.proofs.Common.{◌≡◌, drop, reverse, ap, ◌∙◌}
use Rattle.wk_tree.specs.Layout.{LayoutShown, open_node_of, open_nodes_of, under_node, with_item}
use Rattle.wk_tree.proofs.layout.push.Goals as goal

pub returns : goal.returns
returns c = λ shown h all begins.
    let l = c.args.layout.now in
    let o = c.push_item.new.open_node in
    let items = reverse l.stacks.items.items in
    let parts = reverse l.stacks.parts.items in
    let stack = reverse c.push_item.new.stack.items in
    let step : open_node_of all.items stack parts o ≡ with_item c.args.item c.args.len (open_node_of all.items items parts l.open_node) = c.in_ok-push_item.ensures.shown all.items parts in
    let outer : open_nodes_of all.items (under_node o stack) (drop o.parts parts) (reverse l.outer.items) ≡ open_nodes_of all.items (under_node l.open_node items) (drop l.open_node.parts parts) (reverse l.outer.items) =
    ap (λ s. open_nodes_of all.items s (drop o.parts parts) (reverse l.outer.items)) c.in_ok-push_item.ensures.under
    ∙ ap (λ n. open_nodes_of all.items (under_node l.open_node items) (drop n parts) (reverse l.outer.items)) c.in_ok-push_item.ensures.parts in
    (let e = step in let f = outer in cc) ∙ ap (λ (s : LayoutShown). record s { open_node = with_item c.args.item c.args.len s.open_node }) (h all begins)
