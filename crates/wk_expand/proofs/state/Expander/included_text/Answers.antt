use Rattle.std.proofs.Common.{[], ◌≡◌, Some, None, sym, ap, subst, refl, ◌∙◌}
use Rattle.wk_tree_rules.specs.Redirects.{redirect_target}
use Rattle.wk_view_rules.specs.Expand.{included_text, included, redirected}
use Rattle.wk_view_rules.specs.Expansions.{give}
use Rattle.wk_view_rules.specs.Texts.{node_error}
use Rattle.wk_expand.specs.Running.{ComesTo}
use Rattle.wk_expand.specs.State.{progress_of}
use Rattle.wk_expand.proofs.RunLaws.{comes-as, gives-then}
use Rattle.wk_expand.proofs.InclusionLaws.{included_text-by, redirect-comes}
use Rattle.wk_expand.proofs.state.Expander.included_text.Goals as goal

pub returns-in_default-clause-finds : goal.returns-in_default-clause-finds
returns-in_default-clause-finds c =
    λ seen viewed frame is inner parts.
    let none : redirect_target c.args.text ≡ None = ap redirect_target (sym c.as_str.ensures.value) ∙ sym c.in_ok-target.ensures ∙ c.in_default.is in
    subst (λ t. ComesTo seen (included_text inner viewed frame c.args.title.now c.args.text parts) c.args.self.now (included inner viewed frame c.args.title.now t c.args.text parts) c.args.self.now) (sym c.in_ok-share.ensures)
    (comes-as seen (included_text inner viewed frame c.args.title.now c.args.text parts) (included inner viewed frame c.args.title.now c.args.title.now c.args.text parts) c.args.self.now
    (ap (λ e. e (progress_of c.args.self.now)) (included_text-by inner viewed frame c.args.title.now parts c.args.text None none)))

pub returns-then-not-charge-clause-finds : goal.returns-then-not-charge-clause-finds
returns-then-not-charge-clause-finds c =
    λ seen viewed frame is inner parts.
    let to : redirect_target c.args.text ≡ Some c.in-Some.target = ap redirect_target (sym c.as_str.ensures.value) ∙ sym c.in_ok-target.ensures ∙ c.in-Some.is in
    gives-then seen (included_text inner viewed frame c.args.title.now c.args.text parts) (give node_error) c.args.self.now c.charge.new.self node_error c.in_ok-node_error.field-0
    (redirect-comes inner viewed frame c.args.title.now parts seen c.args.self.now c.charge.new.self c.args.text c.len.result c.in-Some.target (give node_error) to c.len.ensures.value
    (c.if-not-charge.ensures.spent seen (redirected inner viewed frame c.args.title.now c.in-Some.target parts)))
    refl c.in_ok-node_error.ensures

pub returns-clause-finds : goal.returns-clause-finds
returns-clause-finds c =
    λ seen viewed frame is inner parts.
    let to : redirect_target c.args.text ≡ Some c.in-Some.target = ap redirect_target (sym c.as_str.ensures.value) ∙ sym c.in_ok-target.ensures ∙ c.in-Some.is in
    let rest = redirected inner viewed frame c.args.title.now c.in-Some.target parts in
    redirect-comes inner viewed frame c.args.title.now parts seen c.args.self.now c.charge.new.self c.args.text c.len.result c.in-Some.target rest to c.len.ensures.value (c.if-not-charge.ensures.within seen rest)

pub returns-then-not-charge-clause-same : goal.returns-then-not-charge-clause-same
returns-then-not-charge-clause-same c = (c.if-not-charge.ensures.spent [] (give [])).same

pub returns-clause-same : goal.returns-clause-same
returns-clause-same c = (c.if-not-charge.ensures.within [] (give [])).same
