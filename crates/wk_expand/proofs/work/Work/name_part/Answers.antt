use Rattle.std.proofs.Common.{◌≡◌, ℕ, List, [], Option, Some, None, subst, refl}
use Rattle.std.proofs.lemmas.Result.{IfOk-weaker}
use Rattle.wk_tree.specs.Parsed.{list_with}
use Rattle.wk_tree.specs.declared.item.NodeId.{NodeId}
use Rattle.wk_tree_rules.specs.Trees.{Item}
use Rattle.wk_view_rules.specs.Expansions.{Output, ◌>>=◌}
use Rattle.wk_expand.specs.State.{current}
use Rattle.wk_expand.specs.Work.{IsFilled}
use Rattle.wk_expand.specs.declared.stack.Next.TheVariants.{Goes}
use Rattle.wk_expand.specs.declared.stack.Pending.TheVariants.{Named}
use Rattle.wk_expand.specs.declared.stack.Waiting.TheVariants.{Title}
use Rattle.wk_expand.specs.declared.state.Expander.{Expander}
use Rattle.wk_expand.proofs.NamedLaws.{name-leads}
use Rattle.wk_expand.proofs.PartLaws.{some_of}
use Rattle.wk_expand.proofs.WorkLaws.{AreFilled, expands-end, expands-node, expands-waits, going-leads}
use Rattle.wk_expand.proofs.work.Work.name_part.Goals as goal

filled-empty : (s : Expander) (items : List Item) (before : Output) (at : ℕ) (found : Option NodeId) (new : Output) → before ≡ [] → IsFilled (current s) items 0 before (at, found) new → IsFilled (current s) items 0 [] (at, found) new
filled-empty s items before at found new none h = subst (λ (o : Output). IsFilled (current s) items 0 o (at, found) new) none h

pub fill-requires : goal.fill-requires
fill-requires c =
    let g = c.requires.1 in
    some_of (list_with (current c.args.self.now.expander) c.args.list) g.rest_is.items g.rest_is.there

pub returns-in_ok-wait-in-Some : goal.returns-in_ok-wait-in-Some
returns-in_ok-wait-in-Some c =
    λ e g.
    let w = c.args.self.now in
    let filled : AreFilled w.expander c.args.list [] (c.in_ok-at.at, Some c.in-Some.first) c.fill.new.out = λ items k.
    filled-empty w.expander items c.new-out.result c.in_ok-at.at (Some c.in-Some.first) c.fill.new.out c.new-out.ensures
    (subst (λ (n : Option NodeId). IsFilled (current w.expander) items 0 c.new-out.result (c.in_ok-at.at, n) c.fill.new.out) c.in-Some.is (c.in_ok-at.ensures items k))
    in
    expands-node c.args.seen.now e w c.wait.new.self c.args.node c.in-Some.first Title c.args.list [] c.fill.new.out c.in_ok-at.at filled c.in_ok-wait-in-Some.ensures g

pub named-requires : goal.named-requires
named-requires c =
    let w = c.args.self.now in
    let seen = c.args.seen.now in
    let id = c.args.node in
    let new = c.fill.new.out in
    let g = c.requires.1 in
    let h = name-leads seen w.expander id Title new refl (expands-waits w id Title c.args.list [] c.requires.0 g) in
    (h.rest >>= g.one, going-leads seen w w id w.listing (Goes (Named new)) g.spot (g.rest_is.step new) g.one g.list g.is_place g.continues refl h)

pub returns-in-None : goal.returns-in-None
returns-in-None c =
    let w = c.args.self.now in
    let seen = c.args.seen.now in
    let id = c.args.node in
    let new = c.fill.new.out in
    let filled : AreFilled w.expander c.args.list [] (c.in_ok-at.at, None) new = λ items k.
    filled-empty w.expander items c.new-out.result c.in_ok-at.at None new c.new-out.ensures
    (subst (λ (n : Option NodeId). IsFilled (current w.expander) items 0 c.new-out.result (c.in_ok-at.at, n) new) c.in-None.is (c.in_ok-at.ensures items k))
    in
    IfOk-weaker c.named.result _ _ (λ turn k e g.
    expands-end seen e w c.named.new.self w.expander id Title c.args.list [] new c.in_ok-at.at (Goes (Named new)) turn filled
    (λ q. name-leads seen w.expander id Title new refl q) (λ f h. k f h) g) c.named.ensures
