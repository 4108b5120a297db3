use Rattle.std.proofs.Common.{◌≡◌, ◌+◌, ◌∷◌, ◌++◌, take, reverse, ap, sym, ◌∙◌}
use Rattle.std.proofs.lemmas.List.{reverse-reverse}
use Rattle.wk_tree.specs.Layout.{items_by, items_of, under_by, under_section, put, put_each}
use Rattle.wk_tree.specs.declared.item.Item.TheVariants.{Plain}
use Rattle.wk_tree.proofs.layout.join_value.Goals as goal

pub returns-clause-section : goal.returns-clause-section
returns-clause-section c =
    let st = reverse c.args.stack.now.items in
    let n = c.args.open_node.now.section.others in
    let first = c.in-Some.first in
    let equals = Plain c.args.equals 1 in
    let whole : items_of c.args.open_node.now.section st ≡ first ∷ take n st = ap (λ f. items_by f n st) c.in-Some.is in
    let under : reverse c.unstack.new.stack.items ≡ under_section c.args.open_node.now.section st = c.in_ok-unstack.ensures.stack ∙ sym (ap (λ f. under_by f n st) c.in-Some.is) in
    let others : c.unstack.new.list.items ≡ take n st = c.in_ok-unstack.ensures.list ∙ ap (λ l. l ++ take n st) c.new-others.ensures.items in
    let back : reverse c.deref.result.now ≡ take n st = ap reverse (c.deref.ensures.value ∙ c.reverse.ensures.items ∙ ap reverse others) ∙ reverse-reverse (take n st) in
    let items : items_of c.put-3.new.section (reverse c.put-3.new.stack.items) ≡ put_each (items_of c.args.open_node.now.section st) (put equals (items_of c.args.open_node.now.value (under_section c.args.open_node.now.section st))) =
    c.in_ok-put-3.ensures.items
    ∙ ap (put first) (c.in_ok-put_each.ensures.items
    ∙ ap (λ l. put_each l (items_of c.put-2.new.section (reverse c.put-2.new.stack.items))) back
    ∙ ap (put_each (take n st)) (c.in_ok-put-2.ensures.items ∙ ap (λ s. put equals (items_of c.args.open_node.now.value s)) under))
    ∙ ap (λ l. put_each l (put equals (items_of c.args.open_node.now.value (under_section c.args.open_node.now.section st)))) (sym whole) in
    let len : c.in_ok-len.len ≡ c.args.open_node.now.section.len + (1 + c.args.open_node.now.value.len) = c.in_ok-len.ensures ∙ ap (λ k. c.args.open_node.now.section.len + k) c.in_ok-sum.ensures in
    cc

pub returns-clause-under : goal.returns-clause-under
returns-clause-under c =
    let st = reverse c.args.stack.now.items in
    let n = c.args.open_node.now.section.others in
    let under : reverse c.unstack.new.stack.items ≡ under_section c.args.open_node.now.section st = c.in_ok-unstack.ensures.stack ∙ sym (ap (λ f. under_by f n st) c.in-Some.is) in
    c.in_ok-put-3.ensures.under ∙ c.in_ok-put_each.ensures.under ∙ c.in_ok-put-2.ensures.under ∙ ap (under_section c.args.open_node.now.value) under
