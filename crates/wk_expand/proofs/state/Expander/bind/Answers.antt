use Rattle.std.proofs.Common.{◌++◌, ◌+◌, List, Option, Some, sym, ap, subst, ◌∙◌}
use Rattle.std.proofs.lemmas.List.{drop_all}
use Rattle.std.proofs.lemmas.Result.{IfOk-weaker}
use Rattle.wk_tree.specs.declared.item.ListId.{ListId}
use Rattle.wk_view_rules.specs.Expand.{with_bindings}
use Rattle.wk_view_rules.specs.Expansions.{Expansion, Output, ◌>>=◌}
use Rattle.wk_view_rules.specs.Frames.{Binding}
use Rattle.wk_expand.specs.Stack.{IsBinder, IsBoundNext, included_with, parts_at}
use Rattle.wk_frames.specs.declared.levels.Bound.{Bound}
use Rattle.wk_expand.specs.declared.stack.Inclusion.{Inclusion}
use Rattle.wk_expand.specs.declared.stack.Waiting.TheVariants.{Binding as BindingOf}
use Rattle.wk_expand.proofs.BindLaws.{bindings-end}
use Rattle.wk_expand.proofs.LeadLaws.{leads-in, leads-list, parts-past}
use Rattle.wk_expand.proofs.WrittenLaws.{bind-same}
use Rattle.wk_expand.proofs.state.Expander.bind.Goals as goal

pub returns-in-Some : goal.returns-in-Some
returns-in-Some c =
    λ seen p rest h k.
    let s = c.args.self.now in
    let page = c.args.page in
    let binder = c.bind_part.new.binder in
    let v = c.in-Some.bound in
    let found : IsBoundNext p c.parts.binder (Some (c.in-Some.name, v)) binder = subst (λ (o : Option (ListId × Bound)). IsBoundNext p c.parts.binder o binder) c.in-Some.is (c.in_ok-name.ensures.bound p h) in
    let next = found page rest (c.parts.invariant.same p h page rest k) in
    let before = c.new-before.result in
    let first = p.inner p.frame next.items in
    leads-list s c.args.node p h seen rest (BindingOf c.in_ok-page.page binder v) c.in-Some.name before next.items next.step next.there
    (subst (λ (x : Inclusion). IsBinder p x binder v next.step) (sym c.in_ok-page.ensures) next.step_is)
    h.home
    (next.is ∙ bind-same first next.step (λ out. next.step (before ++ out)) (λ out. ap (λ (b : Output). next.step (b ++ out)) (sym c.new-before.ensures)))

pub returns : goal.returns
returns c =
    let binder = c.parts.binder in
    IfOk-weaker c.enter_page.result _ _ (λ next leads seen p rest h k.
    let q = c.parts.invariant.same p h c.args.page rest k in
    let included = included_with p c.args.page in
    let past = parts-past c.args.self.now c.args.node p h c.tree.result.now c.parts-count.result binder.at c.tree.ensures c.parts-count.ensures c.parts-test.false in
    leads-in seen p rest (included q.bindings) c.args.self.now next c.enter_page.new.self
    (q.is ∙ ap (λ (x : Expansion (List Binding)). x >>= included)
    (ap (with_bindings p.inner p.viewed p.frame (binder.numbered + 1) q.bindings) (drop_all binder.at (parts_at p) past)
    ∙ bindings-end p.inner p.viewed p.frame (binder.numbered + 1) q.bindings))
    (leads seen p c.args.node q.bindings h q.bound.shows)) c.enter_page.ensures
