use Rattle.std.proofs.Common.{◌≡◌, drop, reverse, ap, ◌∙◌}
use Rattle.wk_tree.specs.Layout.{open_node_of, open_nodes_of, under_node, with_equals, with_token}
use Rattle.wk_tree.specs.declared.token.Token.TheVariants.{Equals}
use Rattle.wk_tree.proofs.layout.push_equals.Goals as goal

pub returns : goal.returns
returns c = λ shown h all begins.
    let l = c.args.layout.now in
    let o = c.put_equals.new.open_node in
    let items = reverse l.stacks.items.items in
    let parts = reverse l.stacks.parts.items in
    let stack = reverse c.put_equals.new.stack.items in
    let step : open_node_of all.items stack parts o ≡ with_equals c.args.start (open_node_of all.items items parts l.open_node) = c.in_ok-put_equals.ensures.shown all.items parts in
    let outer : open_nodes_of all.items (under_node o stack) (drop o.parts parts) (reverse l.outer.items) ≡ open_nodes_of all.items (under_node l.open_node items) (drop l.open_node.parts parts) (reverse l.outer.items) =
    ap (λ s. open_nodes_of all.items s (drop o.parts parts) (reverse l.outer.items)) c.in_ok-put_equals.ensures.under
    ∙ ap (λ n. open_nodes_of all.items (under_node l.open_node items) (drop n parts) (reverse l.outer.items)) c.in_ok-put_equals.ensures.parts in
    (let e = step in let f = outer in cc) ∙ ap (with_token (Equals c.args.start)) (h all begins)
