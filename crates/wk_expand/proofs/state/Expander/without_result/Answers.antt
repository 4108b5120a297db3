use Rattle.std.proofs.Common.{[], refl, ap, subst, ◌∙◌}
use Rattle.std.specs.Option.{option_and_then}
use Rattle.wk_tree.specs.Parsed.{list_with}
use Rattle.wk_view_rules.specs.Expand.{without_result}
use Rattle.wk_expand.specs.Searches.{HasDefault, search_of}
use Rattle.wk_expand.specs.Stack.{text_at}
use Rattle.wk_expand.proofs.LeadLaws.{leads-give, leads-trimmed, text-here}
use Rattle.wk_expand.proofs.PartLaws.{some_part}
use Rattle.wk_expand.proofs.SwitchLaws.{default-there, without-all, without-default, without-text}
use Rattle.wk_expand.proofs.state.Expander.without_result.Goals as goal

pub returns-in-Some : goal.returns-in-Some
returns-in-Some c =
    λ seen p id h.
    let so_far = search_of (text_at p) c.args.search in
    leads-give c.args.self.now id p h seen (without_result p.inner p.viewed p.frame so_far) c.in-Some.text c.in-Some.text (without-text p.inner p.viewed p.frame so_far c.in-Some.text c.in-Some.is) refl

pub returns-in-Some-default : goal.returns-in-Some-default
returns-in-Some-default c =
    λ seen p id h.
    let so_far = search_of (text_at p) c.args.search in
    let kept = subst (λ parsed. HasDefault parsed c.args.search) (text-here c.args.self.now id p h) c.requires in
    let items = some_part (list_with (text_at p) c.in-Some-default.value) (default-there (text_at p) c.args.search c.in-Some-default.value c.in-Some-default.is kept) in
    leads-trimmed c.args.self.now id p h seen (without_result p.inner p.viewed p.frame so_far) c.in-Some-default.value c.new-out.result items.0 items.1 c.new-out.ensures
    (without-default p.inner p.viewed p.frame so_far items.0 c.in_default.is (ap (option_and_then (list_with (text_at p))) c.in-Some-default.is ∙ items.1))

pub returns : goal.returns
returns c =
    λ seen p id h.
    let so_far = search_of (text_at p) c.args.search in
    leads-give c.args.self.now id p h seen (without_result p.inner p.viewed p.frame so_far) c.new-out.result []
    (without-all p.inner p.viewed p.frame so_far c.in_default.is (ap (option_and_then (list_with (text_at p))) c.in-None.is))
    c.new-out.ensures
