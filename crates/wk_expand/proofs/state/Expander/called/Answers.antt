use Rattle.std.proofs.Common.{None, Some, sym, subst, ◌∙◌}
use Rattle.std.proofs.lemmas.Result.{err_from_is_err_and}
use Rattle.wk_view_rules.specs.Expand.{inclusion, page_output, template_as_written}
use Rattle.wk_expand.specs.Decisions.{decision_rest}
use Rattle.wk_expand.specs.Inclusions.{found_rest}
use Rattle.wk_expand.specs.Running.{ComesTo}
use Rattle.wk_expand.specs.declared.inclusion.Found.{Found}
use Rattle.wk_expand.proofs.DecideLaws.{page-by}
use Rattle.wk_expand.proofs.RunLaws.{comes-in, comes-itself, leads-err, stops-as}
use Rattle.wk_expand.proofs.state.Expander.called.Goals as goal

pub returns-in_default-clause-leads : goal.returns-in_default-clause-leads
returns-in_default-clause-leads c =
    λ viewed frame is inner name parts trimmed.
    let written = template_as_written inner viewed frame name parts in
    comes-in c.args.seen.now (page_output inner viewed frame name parts) written written c.args.self.now c.args.self.now
    (page-by inner viewed frame name c.args.title.now parts None trimmed (sym c.in_ok-title.ensures ∙ c.in_default.is))
    (comes-itself c.args.seen.now written c.args.self.now)

pub returns-in_err-out-clause-leads : goal.returns-in_err-out-clause-leads
returns-in_err-out-clause-leads c =
    λ viewed frame is inner name parts trimmed.
    let whole = page_output inner viewed frame name parts in
    let p = err_from_is_err_and c.from_residual-in_err-out.result c.from_residual-in_err-out.ensures.1 in
    leads-err c.args.seen.now whole c.args.self.now (decision_rest inner viewed frame name parts) c.from_residual-in_err-out.result c.inclusion.new.self c.in_err-out.field-0.0 p.0 p.1 p.2
    (stops-as c.args.seen.now whole (inclusion inner viewed frame c.in-Some.title parts) c.args.self.now c.in_err-out.field-0.0
    (page-by inner viewed frame name c.args.title.now parts (Some c.in-Some.title) trimmed (sym c.in_ok-title.ensures ∙ c.in-Some.is))
    (c.in_err-out.ensures.finds viewed frame is inner parts))

pub returns-in-Gives-clause-leads : goal.returns-in-Gives-clause-leads
returns-in-Gives-clause-leads c =
    λ viewed frame is inner name parts trimmed.
    let whole = page_output inner viewed frame name parts in
    let rest = found_rest inner viewed frame c.in-Some.title parts in
    subst (λ (found : Found). ComesTo c.args.seen.now whole c.args.self.now (rest found) c.inclusion.new.self) c.in-Gives.is
    (comes-in c.args.seen.now whole (inclusion inner viewed frame c.in-Some.title parts) (rest c.in_ok-out.field-0) c.args.self.now c.inclusion.new.self
    (page-by inner viewed frame name c.args.title.now parts (Some c.in-Some.title) trimmed (sym c.in_ok-title.ensures ∙ c.in-Some.is))
    (c.in_ok-out.ensures.finds viewed frame is inner parts))

pub returns-in-Includes-clause-leads : goal.returns-in-Includes-clause-leads
returns-in-Includes-clause-leads c =
    λ viewed frame is inner name parts trimmed.
    let whole = page_output inner viewed frame name parts in
    let rest = found_rest inner viewed frame c.in-Some.title parts in
    subst (λ (found : Found). ComesTo c.args.seen.now whole c.args.self.now (rest found) c.inclusion.new.self) c.in-Includes.is
    (comes-in c.args.seen.now whole (inclusion inner viewed frame c.in-Some.title parts) (rest c.in_ok-out.field-0) c.args.self.now c.inclusion.new.self
    (page-by inner viewed frame name c.args.title.now parts (Some c.in-Some.title) trimmed (sym c.in_ok-title.ensures ∙ c.in-Some.is))
    (c.in_ok-out.ensures.finds viewed frame is inner parts))

pub returns-in-Gives-clause-same : goal.returns-in-Gives-clause-same
returns-in-Gives-clause-same c = c.in_ok-out.ensures.same

pub returns-in-Includes-clause-same : goal.returns-in-Includes-clause-same
returns-in-Includes-clause-same c = c.in_ok-out.ensures.same

pub returns-in-Redirects-clause-leads : goal.returns-in-Redirects-clause-leads
returns-in-Redirects-clause-leads c =
    λ viewed frame is inner name parts trimmed.
    let whole = page_output inner viewed frame name parts in
    let rest = found_rest inner viewed frame c.in-Some.title parts in
    subst (λ (found : Found). ComesTo c.args.seen.now whole c.args.self.now (rest found) c.inclusion.new.self) c.in-Redirects.is
    (comes-in c.args.seen.now whole (inclusion inner viewed frame c.in-Some.title parts) (rest c.in_ok-out.field-0) c.args.self.now c.inclusion.new.self
    (page-by inner viewed frame name c.args.title.now parts (Some c.in-Some.title) trimmed (sym c.in_ok-title.ensures ∙ c.in-Some.is))
    (c.in_ok-out.ensures.finds viewed frame is inner parts))

pub returns-in-Redirects-clause-same : goal.returns-in-Redirects-clause-same
returns-in-Redirects-clause-same c = c.in_ok-out.ensures.same
