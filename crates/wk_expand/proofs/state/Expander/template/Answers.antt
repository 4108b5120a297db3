use Rattle.std.proofs.Common.{◌≡◌, length, sym, ap, refl}
use Rattle.std.proofs.lemmas.Result.{err_from_is_err_and}
use Rattle.wk_view_rules.specs.Expand.{switch_output, template_output}
use Rattle.wk_expand.specs.Searches.{search_of}
use Rattle.wk_expand.specs.declared.search.Search.{Search}
use Rattle.wk_expand.specs.Decisions.{decision_rest}
use Rattle.wk_expand.specs.Stack.{parts_at, text_at}
use Rattle.wk_expand.specs.declared.decide.Decision.{Decision}
use Rattle.wk_expand.specs.declared.decide.Decision.TheVariants.{Gives, Operand, Equality, Switch, Written, Includes, Redirects}
use Rattle.wk_expand.specs.declared.stack.Pending.TheVariants.{Target}
use Rattle.wk_expand.proofs.LeadLaws.{count-here, frame-here, here-later, leads-behind, leads-comes, leads-goes, leads-in, leads-stop}
use Rattle.wk_expand.proofs.TemplateLaws.{decided-comes}
use Rattle.wk_expand.proofs.state.Expander.template.Goals as goal

pub returns-in_err-out-clause-leads : goal.returns-in_err-out-clause-leads
returns-in_err-out-clause-leads c =
    λ p h.
    let s = c.args.self.now in
    let t = c.decide.new.self in
    let seen = c.args.seen.now in
    let parts = parts_at p in
    let e = template_output p.inner p.viewed p.frame c.args.name.now parts in
    let count : length parts ≡ c.parts-count.result = sym (count-here s c.args.node p h c.tree.result.now c.parts-count.result c.tree.ensures c.parts-count.ensures) in
    let q = err_from_is_err_and c.from_residual.result c.from_residual.ensures.1 in
    leads-stop seen p e s c.from_residual.result t c.in_err-out.field-0.0 q.0 q.1 q.2
    (c.in_err-out.ensures.leads p.viewed p.frame (frame-here s c.args.node p h) p.inner parts count)

pub returns-in-Gives-clause-leads : goal.returns-in-Gives-clause-leads
returns-in-Gives-clause-leads c =
    λ p h.
    let s = c.args.self.now in
    let t = c.decide.new.self in
    let seen = c.args.seen.now in
    let parts = parts_at p in
    let e = template_output p.inner p.viewed p.frame c.args.name.now parts in
    let count : length parts ≡ c.parts-count.result = sym (count-here s c.args.node p h c.tree.result.now c.parts-count.result c.tree.ensures c.parts-count.ensures) in
    leads-comes s c.args.node p h seen e c.in-Gives.out t
    (decided-comes p.inner p.viewed p.frame c.args.name.now parts seen e s t c.in_ok-out.field-0 (Gives c.in-Gives.out) c.in-Gives.is
    (c.in_ok-out.ensures.leads p.viewed p.frame (frame-here s c.args.node p h) p.inner parts count))

pub returns-in-Operand-clause-leads : goal.returns-in-Operand-clause-leads
returns-in-Operand-clause-leads c =
    λ p h.
    let s = c.args.self.now in
    let t = c.decide.new.self in
    let seen = c.args.seen.now in
    let parts = parts_at p in
    let e = template_output p.inner p.viewed p.frame c.args.name.now parts in
    let count : length parts ≡ c.parts-count.result = sym (count-here s c.args.node p h c.tree.result.now c.parts-count.result c.tree.ensures c.parts-count.ensures) in
    let d : Decision = Operand c.in-Operand.n in
    leads-behind seen p e (decision_rest p.inner p.viewed p.frame c.args.name.now parts d) s t c.operand.result t
    (decided-comes p.inner p.viewed p.frame c.args.name.now parts seen e s t c.in_ok-out.field-0 d c.in-Operand.is
    (c.in_ok-out.ensures.leads p.viewed p.frame (frame-here s c.args.node p h) p.inner parts count))
    (c.operand.ensures seen p (here-later s c.args.node p h t c.in_ok-out.ensures.same))

pub returns-in-Equality-clause-leads : goal.returns-in-Equality-clause-leads
returns-in-Equality-clause-leads c =
    λ p h.
    let s = c.args.self.now in
    let t = c.decide.new.self in
    let seen = c.args.seen.now in
    let parts = parts_at p in
    let e = template_output p.inner p.viewed p.frame c.args.name.now parts in
    let count : length parts ≡ c.parts-count.result = sym (count-here s c.args.node p h c.tree.result.now c.parts-count.result c.tree.ensures c.parts-count.ensures) in
    let d : Decision = Equality c.in-Equality.first in
    leads-behind seen p e (decision_rest p.inner p.viewed p.frame c.args.name.now parts d) s t c.equality.result t
    (decided-comes p.inner p.viewed p.frame c.args.name.now parts seen e s t c.in_ok-out.field-0 d c.in-Equality.is
    (c.in_ok-out.ensures.leads p.viewed p.frame (frame-here s c.args.node p h) p.inner parts count))
    (c.equality.ensures seen p (here-later s c.args.node p h t c.in_ok-out.ensures.same))

pub returns-in_ok-search-in-Switch-clause-leads : goal.returns-in_ok-search-in-Switch-clause-leads
returns-in_ok-search-in-Switch-clause-leads c =
    λ p h.
    let s = c.args.self.now in
    let t = c.decide.new.self in
    let seen = c.args.seen.now in
    let parts = parts_at p in
    let e = template_output p.inner p.viewed p.frame c.args.name.now parts in
    let count : length parts ≡ c.parts-count.result = sym (count-here s c.args.node p h c.tree.result.now c.parts-count.result c.tree.ensures c.parts-count.ensures) in
    let d : Decision = Switch c.in-Switch.subject in
    leads-behind seen p e (decision_rest p.inner p.viewed p.frame c.args.name.now parts d) s t c.switch.result t
    (decided-comes p.inner p.viewed p.frame c.args.name.now parts seen e s t c.in_ok-out.field-0 d c.in-Switch.is
    (c.in_ok-out.ensures.leads p.viewed p.frame (frame-here s c.args.node p h) p.inner parts count))
    (leads-in seen p (decision_rest p.inner p.viewed p.frame c.args.name.now parts d) (switch_output p.inner p.viewed p.frame (search_of (text_at p) c.in_ok-search-in-Switch.search) parts) t c.switch.result t
    (sym (ap (λ (x : Search). switch_output p.inner p.viewed p.frame (search_of (text_at p) x) parts) c.in_ok-search-in-Switch.ensures))
    (c.switch.ensures seen p (here-later s c.args.node p h t c.in_ok-out.ensures.same)))

pub returns-in_ok-written-in-Written-clause-leads : goal.returns-in_ok-written-in-Written-clause-leads
returns-in_ok-written-in-Written-clause-leads c =
    λ p h.
    let s = c.args.self.now in
    let t = c.decide.new.self in
    let seen = c.args.seen.now in
    let parts = parts_at p in
    let e = template_output p.inner p.viewed p.frame c.args.name.now parts in
    let count : length parts ≡ c.parts-count.result = sym (count-here s c.args.node p h c.tree.result.now c.parts-count.result c.tree.ensures c.parts-count.ensures) in
    let d : Decision = Written in
    leads-behind seen p e (decision_rest p.inner p.viewed p.frame c.args.name.now parts d) s t c.in_ok-written-in-Written.field-0 t
    (decided-comes p.inner p.viewed p.frame c.args.name.now parts seen e s t c.in_ok-out.field-0 d c.in-Written.is
    (c.in_ok-out.ensures.leads p.viewed p.frame (frame-here s c.args.node p h) p.inner parts count))
    (c.in_ok-written-in-Written.ensures seen p (here-later s c.args.node p h t c.in_ok-out.ensures.same))

pub returns-in_ok-page_text-in-Includes-clause-leads : goal.returns-in_ok-page_text-in-Includes-clause-leads
returns-in_ok-page_text-in-Includes-clause-leads c =
    λ p h.
    let s = c.args.self.now in
    let t = c.decide.new.self in
    let seen = c.args.seen.now in
    let parts = parts_at p in
    let e = template_output p.inner p.viewed p.frame c.args.name.now parts in
    let count : length parts ≡ c.parts-count.result = sym (count-here s c.args.node p h c.tree.result.now c.parts-count.result c.tree.ensures c.parts-count.ensures) in
    let d : Decision = Includes c.in-Includes.title c.in-Includes.source c.in-Includes.text in
    leads-behind seen p e (decision_rest p.inner p.viewed p.frame c.args.name.now parts d) s t c.in_ok-page_text-in-Includes.field-0 c.page_text.new.self
    (decided-comes p.inner p.viewed p.frame c.args.name.now parts seen e s t c.in_ok-out.field-0 d c.in-Includes.is
    (c.in_ok-out.ensures.leads p.viewed p.frame (frame-here s c.args.node p h) p.inner parts count))
    (c.in_ok-page_text-in-Includes.ensures seen p (here-later s c.args.node p h t c.in_ok-out.ensures.same))

pub returns-in-Redirects-clause-leads : goal.returns-in-Redirects-clause-leads
returns-in-Redirects-clause-leads c =
    λ p h.
    let s = c.args.self.now in
    let t = c.decide.new.self in
    let seen = c.args.seen.now in
    let parts = parts_at p in
    let e = template_output p.inner p.viewed p.frame c.args.name.now parts in
    let count : length parts ≡ c.parts-count.result = sym (count-here s c.args.node p h c.tree.result.now c.parts-count.result c.tree.ensures c.parts-count.ensures) in
    let d : Decision = Redirects c.in-Redirects.title c.in-Redirects.target in
    leads-goes s c.args.node p h seen e t (Target c.in-Redirects.title c.in-Redirects.target) (decision_rest p.inner p.viewed p.frame c.args.name.now parts d) refl
    (decided-comes p.inner p.viewed p.frame c.args.name.now parts seen e s t c.in_ok-out.field-0 d c.in-Redirects.is
    (c.in_ok-out.ensures.leads p.viewed p.frame (frame-here s c.args.node p h) p.inner parts count))
