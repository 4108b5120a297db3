use Rattle.std.proofs.lemmas.Result.{IfOk-weaker}
use Rattle.std.proofs.Common.{◌≡◌, ◌<◌, ◌+◌, length, reverse, refl, sym, ap, subst, arith, ◌∙◌, [], IsSome}
use Rattle.std.proofs.lemmas.List.{length-reverse}
use Rattle.wk_tree.specs.Parsed.{node_with}
use Rattle.wk_view_rules.specs.Expansions.{Output, give}
use Rattle.wk_view_rules.specs.Texts.{nesting_error}
use Rattle.wk_expand.specs.Nodes.{charged_node, opened}
use Rattle.wk_expand.specs.Running.{ComesTo}
use Rattle.wk_expand.specs.State.{current}
use Rattle.wk_expand.specs.declared.state.Expander.{Expander}
use Rattle.wk_expand.specs.declared.work.Work.{Work}
use Rattle.wk_expand.proofs.NodeLaws.{node-there, title-is}
use Rattle.wk_expand.proofs.PartLaws.{current-same, some_of}
use Rattle.wk_expand.proofs.RunLaws.{comes-out}
use Rattle.wk_expand.proofs.WorkLaws.{continues-left, node-gives, node-opens, turn-behind}
use Rattle.wk_expand.proofs.work.Work.open.Goals as goal

pub returns-then-not-charge : goal.returns-then-not-charge
returns-then-not-charge c =
    λ e h.
    let seen = c.args.seen.now in
    let w = c.args.self.now in
    let u : Work = c.passed.new.self in
    let first = charged_node h.left w.expander.page h.frame h.node.kind h.node.content in
    let come = subst (λ (o : Output). ComesTo seen first w.expander (give o) c.charge.new.self) (sym c.in_ok-spent.ensures)
    (c.if-not-charge.ensures.spent seen (opened h.left w.expander.page h.frame h.node.kind h.node.content))
    in
    node-gives seen w u c.args.node w.listing e h (ap reverse c.in_ok-passed.ensures.opened) c.in_ok-spent.spent
    (subst (λ (t : Expander). ComesTo seen first w.expander (give c.in_ok-spent.spent) t) (sym c.in_ok-passed.ensures.expander) come)
    c.in_ok-passed.ensures.listing

pub returns-then-as_slice-ge-MOST_OPEN : goal.returns-then-as_slice-ge-MOST_OPEN
returns-then-as_slice-ge-MOST_OPEN c =
    λ e h.
    let seen = c.args.seen.now in
    let w = c.args.self.now in
    let u : Work = c.passed-then-as_slice-ge-MOST_OPEN.new.self in
    let page = w.expander.page in
    let first = charged_node h.left page h.frame h.node.kind h.node.content in
    let rest = opened h.left page h.frame h.node.kind h.node.content in
    let total : h.left + length (reverse w.opened.items) ≡ 200 = continues-left h.left page w.expander.levels (reverse w.opened.items) h.after h.continues in
    let none : h.left ≡ 0 = omega (arith, total, length-reverse w.opened.items, c.if-as_slice-ge-MOST_OPEN.true, c.as_slice.ensures.value) in
    let come = subst (λ (o : Output). ComesTo seen first w.expander (give o) c.charge.new.self) (sym c.in_ok-nested.ensures)
    (comes-out seen first rest (give nesting_error) w.expander c.charge.new.self (ap (λ n. opened n page h.frame h.node.kind h.node.content) none)
    (c.if-not-charge.ensures.within seen rest))
    in
    node-gives seen w u c.args.node w.listing e h (ap reverse c.in_ok-passed-2.ensures.opened) c.in_ok-nested.nested
    (subst (λ (t : Expander). ComesTo seen first w.expander (give c.in_ok-nested.nested) t) (sym c.in_ok-passed-2.ensures.expander) come)
    c.in_ok-passed-2.ensures.listing

pub title-title-requires : goal.title-title-requires
title-title-requires c =
    let h = c.requires.1 in
    subst (λ parsed. IsSome (node_with parsed c.args.node)) (sym c.tree.ensures)
    (node-there c.args.self.now.expander c.charge.new.self c.args.node (c.if-not-charge.ensures.within [] (give [])).same
    (some_of (node_with (current c.args.self.now.expander) c.args.node) h.node h.node_is))

pub title_part-requires : goal.title_part-requires
title_part-requires c =
    let h = c.requires.1 in
    let w = c.args.self.now in
    let u : Work = record w { expander = c.charge.new.self } in
    let page = w.expander.page in
    let total : h.left + length (reverse w.opened.items) ≡ 200 = continues-left h.left page w.expander.levels (reverse w.opened.items) h.after h.continues in
    let more : 0 < h.left = omega (arith, total, length-reverse w.opened.items, c.if-as_slice-ge-MOST_OPEN.false, c.as_slice.ensures.value) in
    let come = c.if-not-charge.ensures.within [] (opened h.left page h.frame h.node.kind h.node.content) in
    let there = ap (λ parsed. node_with parsed c.args.node) (current-same w.expander u.expander come.same) ∙ h.node_is in
    let title = title-is c.tree.result.now (current u.expander) c.args.node c.title-title.result h.node c.tree.ensures c.title-title.ensures there in
    let opens = node-opens [] w u c.args.node w.listing c.requires.0 h refl more come c.title-title.result [] title refl in
    (opens.0, opens.1)

pub returns : goal.returns
returns c =
    let w = c.args.self.now in
    let u : Work = record w { expander = c.charge.new.self } in
    let page = w.expander.page in
    let seen = c.args.seen.now in
    IfOk-weaker c.title_part.result _ _ (λ turn k e h.
    let rest = opened h.left page h.frame h.node.kind h.node.content in
    let total : h.left + length (reverse w.opened.items) ≡ 200 = continues-left h.left page w.expander.levels (reverse w.opened.items) h.after h.continues in
    let more : 0 < h.left = omega (arith, total, length-reverse w.opened.items, c.if-as_slice-ge-MOST_OPEN.false, c.as_slice.ensures.value) in
    let come = c.if-not-charge.ensures.within seen rest in
    let there = ap (λ parsed. node_with parsed c.args.node) (current-same w.expander u.expander come.same) ∙ h.node_is in
    let title = title-is c.tree.result.now (current u.expander) c.args.node c.title-title.result h.node c.tree.ensures c.title-title.ensures there in
    let opens = node-opens seen w u c.args.node w.listing e h refl more come c.title-title.result [] title refl in
    turn-behind seen e opens.0 w.expander u.expander turn c.title_part.new.self opens.2 (k opens.0 opens.1)) c.title_part.ensures
