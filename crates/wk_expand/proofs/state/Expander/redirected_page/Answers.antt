use Rattle.std.proofs.Common.{sym, ap, subst}
use Rattle.std.proofs.lemmas.Result.{err_from_is_err_and}
use Rattle.wk_text_rules.specs.Titles.{PageTitle}
use Rattle.wk_view_rules.specs.Expand.{included, redirected}
use Rattle.wk_expand.specs.Inclusions.{found_rest}
use Rattle.wk_expand.specs.Running.{ComesTo}
use Rattle.wk_expand.specs.Stack.{parts_at}
use Rattle.wk_expand.specs.declared.inclusion.Found.{Found}
use Rattle.wk_expand.specs.declared.stack.Pending.TheVariants.{Target}
use Rattle.wk_expand.proofs.LeadLaws.{frame-here, here-later, leads-behind, leads-comes, leads-goes, leads-stop}
use Rattle.wk_expand.proofs.state.Expander.redirected_page.Goals as goal

pub returns-in_err-out-clause-leads : goal.returns-in_err-out-clause-leads
returns-in_err-out-clause-leads c =
    λ p h.
    let s = c.args.self.now in
    let q = err_from_is_err_and c.from_residual.result c.from_residual.ensures.1 in
    leads-stop c.args.seen.now p (redirected p.inner p.viewed p.frame c.args.title.now c.args.target.now (parts_at p)) s c.from_residual.result c.redirected.new.self c.in_err-out.field-0.0 q.0 q.1 q.2
    (c.in_err-out.ensures.finds p.viewed p.frame (frame-here s c.args.node p h) p.inner (parts_at p))

pub returns-in-Gives-clause-leads : goal.returns-in-Gives-clause-leads
returns-in-Gives-clause-leads c =
    λ p h.
    let s = c.args.self.now in
    let t = c.redirected.new.self in
    let seen = c.args.seen.now in
    let e = redirected p.inner p.viewed p.frame c.args.title.now c.args.target.now (parts_at p) in
    let rest = found_rest p.inner p.viewed p.frame c.args.title.now (parts_at p) in
    leads-comes s c.args.node p h seen e c.in-Gives.out t
    (subst (λ (f : Found). ComesTo seen e s (rest f) t) c.in-Gives.is (c.in_ok-out.ensures.finds p.viewed p.frame (frame-here s c.args.node p h) p.inner (parts_at p)))

pub returns-in_ok-share-in-Redirects-clause-leads : goal.returns-in_ok-share-in-Redirects-clause-leads
returns-in_ok-share-in-Redirects-clause-leads c =
    λ p h.
    let s = c.args.self.now in
    let t = c.redirected.new.self in
    let seen = c.args.seen.now in
    let e = redirected p.inner p.viewed p.frame c.args.title.now c.args.target.now (parts_at p) in
    let rest = found_rest p.inner p.viewed p.frame c.args.title.now (parts_at p) in
    leads-goes s c.args.node p h seen e t (Target c.in_ok-share-in-Redirects.field-0 c.in-Redirects.target) (redirected p.inner p.viewed p.frame c.args.title.now c.in-Redirects.target (parts_at p))
    (ap (λ (t : PageTitle). redirected p.inner p.viewed p.frame t c.in-Redirects.target (parts_at p)) (sym c.in_ok-share-in-Redirects.ensures))
    (subst (λ (f : Found). ComesTo seen e s (rest f) t) c.in-Redirects.is (c.in_ok-out.ensures.finds p.viewed p.frame (frame-here s c.args.node p h) p.inner (parts_at p)))

pub returns-in_ok-page_text-in-Includes-clause-leads : goal.returns-in_ok-page_text-in-Includes-clause-leads
returns-in_ok-page_text-in-Includes-clause-leads c =
    λ p h.
    let s = c.args.self.now in
    let t = c.redirected.new.self in
    let seen = c.args.seen.now in
    let e = redirected p.inner p.viewed p.frame c.args.title.now c.args.target.now (parts_at p) in
    let rest = found_rest p.inner p.viewed p.frame c.args.title.now (parts_at p) in
    let there = subst (λ (f : Found). ComesTo seen e s (rest f) t) c.in-Includes.is (c.in_ok-out.ensures.finds p.viewed p.frame (frame-here s c.args.node p h) p.inner (parts_at p)) in
    leads-behind seen p e (included p.inner p.viewed p.frame c.in_ok-title-in-Includes.title c.in-Includes.source c.in-Includes.text (parts_at p)) s t c.in_ok-page_text-in-Includes.field-0 c.page_text.new.self
    (subst (λ (x : PageTitle). ComesTo seen e s (included p.inner p.viewed p.frame x c.in-Includes.source c.in-Includes.text (parts_at p)) t) (sym c.in_ok-title-in-Includes.ensures) there)
    (c.in_ok-page_text-in-Includes.ensures seen p (here-later s c.args.node p h t c.in_ok-out.ensures.same))
