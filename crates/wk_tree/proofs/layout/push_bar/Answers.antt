use Rattle.std.proofs.Common.{◌≡◌, ◌∷◌, map, take, drop, reverse, ap, ◌∙◌}
use Rattle.wk_tree.specs.Laid.{part_of}
use Rattle.wk_tree.specs.Layout.{BeginsAll, new_part, open_nodes_of, section_of, value_of, under_node, with_token}
use Rattle.wk_tree.specs.declared.token.Token.TheVariants.{Bar}
use Rattle.wk_tree.proofs.StackLemmas.{push-take, push-drop}
use Rattle.wk_tree.proofs.layout.push_bar.Goals as goal

pub returns : goal.returns
returns c = λ shown h all begins.
    let l = c.args.layout.now in
    let items = reverse l.stacks.items.items in
    let parts = reverse l.stacks.parts.items in
    let before : BeginsAll l.lists all = record { items = c.in_ok-part.ensures.begins all.items begins.items; parts = begins.parts } in
    let part : part_of all.items c.in_ok-part.part ≡ new_part c.args.start (section_of l.open_node.section items) (value_of l.open_node items) = c.in_ok-part.ensures.part all.items begins.items in
    let taken : take c.in_ok-parts.parts (reverse c.push.new.self.items) ≡ c.in_ok-part.part ∷ take l.open_node.parts parts =
    push-take l.open_node.parts c.in_ok-parts.parts l.stacks.parts.items c.push.new.self.items c.in_ok-part.part c.in_ok-parts.ensures c.in_ok-push.ensures.items in
    let left : drop c.in_ok-parts.parts (reverse c.push.new.self.items) ≡ drop l.open_node.parts parts =
    push-drop l.open_node.parts c.in_ok-parts.parts l.stacks.parts.items c.push.new.self.items c.in_ok-part.part c.in_ok-parts.ensures c.in_ok-push.ensures.items in
    let shown_parts : map (part_of all.items) (take c.in_ok-parts.parts (reverse c.push.new.self.items)) ≡ new_part c.args.start (section_of l.open_node.section items) (value_of l.open_node items) ∷ map (part_of all.items) (take l.open_node.parts parts) =
    ap (map (part_of all.items)) taken ∙ ap (λ p. p ∷ map (part_of all.items) (take l.open_node.parts parts)) part in
    let outer : open_nodes_of all.items (reverse c.new_part.new.stack.items) (drop c.in_ok-parts.parts (reverse c.push.new.self.items)) (reverse l.outer.items) ≡ open_nodes_of all.items (under_node l.open_node items) (drop l.open_node.parts parts) (reverse l.outer.items) =
    ap (λ s. open_nodes_of all.items s (drop c.in_ok-parts.parts (reverse c.push.new.self.items)) (reverse l.outer.items)) c.in_ok-part.ensures.under
    ∙ ap (λ p. open_nodes_of all.items (under_node l.open_node items) p (reverse l.outer.items)) left in
    let total = c.in_ok-total.ensures in
    (let e = shown_parts in let o = outer in let t = total in cc) ∙ ap (with_token (Bar c.args.start)) (h all before)
