use Rattle.std.proofs.Common.{◌≡◌, ℕ, List, ◌∷◌, length, map, drop, reverse, ap, sym, ◌∙◌}
use Rattle.std.proofs.lemmas.List.{length-map, length-reverse}
use Rattle.wk_tree.specs.Laid.{node_of}
use Rattle.wk_tree.specs.Layout.{BeginsAll, OpenNodeShown, first_open_node, layout_of, new_node, open_node_of, open_nodes_of, other_open_nodes, under_node, with_item, with_node}
use Rattle.wk_tree.specs.declared.item.Item.TheVariants.{Node}
use Rattle.wk_tree.proofs.LayoutLemmas.{with-node-is}
use Rattle.wk_tree.proofs.StackLemmas.{reverse-push}
use Rattle.wk_tree.proofs.layout.push_node.Goals as goal

pub returns : goal.returns
returns c = λ shown h all begins.
    let l = c.args.layout.now in
    let items = reverse l.stacks.items.items in
    let parts = reverse l.stacks.parts.items in
    let before : BeginsAll l.lists all = c.in_ok-made.ensures.begins all begins in
    let made : node_of all c.in_ok-made.made ≡ new_node c.args.argument c.args.start (open_node_of all.items items parts l.open_node) = c.in_ok-made.ensures.node all begins in
    let left_items = c.in_ok-made.ensures.items in
    let left_parts = c.in_ok-made.ensures.parts in
    let around : List OpenNodeShown = open_nodes_of all.items (under_node l.open_node items) (drop l.open_node.parts parts) (reverse l.outer.items) in
    let items2 = reverse c.new_node.new.stacks.items.items in
    let parts2 = reverse c.new_node.new.stacks.parts.items in
    let around2 : open_nodes_of all.items items2 parts2 (reverse l.outer.items) ≡ around =
    ap (λ s. open_nodes_of all.items s parts2 (reverse l.outer.items)) left_items
    ∙ ap (λ p. open_nodes_of all.items (under_node l.open_node items) p (reverse l.outer.items)) left_parts in
    let o = c.enclosing-layout.result in
    let first : open_node_of all.items items2 parts2 o ≡ first_open_node around = sym (c.enclosing-layout.ensures.first all.items items2 parts2) ∙ ap first_open_node around2 in
    let others : open_nodes_of all.items (under_node o items2) (drop o.parts parts2) (reverse c.enclosing-layout.new.outer.items) ≡ other_open_nodes around = sym (c.enclosing-layout.ensures.others all.items items2 parts2) ∙ ap other_open_nodes around2 in
    let n = c.push_item.new.open_node in
    let stack = reverse c.push_item.new.stack.items in
    let node = Node (record { 0 = c.in_ok-to_u32.field-0 }) in
    let step : open_node_of all.items stack parts2 n ≡ with_item node c.in_ok-made.made.len (open_node_of all.items items2 parts2 o) = c.in_ok-push_item.ensures.shown all.items parts2 in
    let outer : open_nodes_of all.items (under_node n stack) (drop n.parts parts2) (reverse c.enclosing-layout.new.outer.items) ≡ other_open_nodes around =
    ap (λ s. open_nodes_of all.items s (drop n.parts parts2) (reverse c.enclosing-layout.new.outer.items)) c.in_ok-push_item.ensures.under
    ∙ ap (λ k. open_nodes_of all.items (under_node o items2) (drop k parts2) (reverse c.enclosing-layout.new.outer.items)) c.in_ok-push_item.ensures.parts
    ∙ others in
    let nodes : map (node_of all) (reverse c.push.new.self.items) ≡ new_node c.args.argument c.args.start (open_node_of all.items items parts l.open_node) ∷ map (node_of all) (reverse l.nodes.items) =
    ap (map (node_of all)) (reverse-push l.nodes.items c.push.new.self.items c.in_ok-made.made c.in_ok-push.ensures.items)
    ∙ ap (λ x. x ∷ map (node_of all) (reverse l.nodes.items)) made in
    let count : c.in_ok-to_u32.field-0 ≡ length (map (node_of all) (reverse l.nodes.items)) =
    c.in_ok-to_u32.ensures ∙ c.len.ensures ∙ l.nodes.ok.0 ∙ sym (length-reverse l.nodes.items) ∙ sym (length-map (reverse l.nodes.items) (node_of all)) in
    let len : c.in_ok-made.made.len ≡ (new_node c.args.argument c.args.start (open_node_of all.items items parts l.open_node)).len = ap (λ x. x.len) made in
    let id = λ (k : ℕ). Node (record { 0 = k }) in
    let found = length (map (node_of all) (reverse l.nodes.items)) in
    with-node-is c.args.argument c.args.start (layout_of all l) (open_node_of all.items stack parts2 n) (open_nodes_of all.items (under_node n stack) (drop n.parts parts2) (reverse c.enclosing-layout.new.outer.items)) (map (node_of all) (reverse c.push.new.self.items))
    (step
    ∙ ap (with_item node c.in_ok-made.made.len) first
    ∙ ap (λ k. with_item (id k) c.in_ok-made.made.len (first_open_node around)) count
    ∙ ap (λ k. with_item (id found) k (first_open_node around)) len)
    outer nodes
    ∙ ap (with_node c.args.argument c.args.start) (h all before)
