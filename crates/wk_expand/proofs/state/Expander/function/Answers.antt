use Rattle.std.proofs.Common.{◌≡◌, true, false, [], drop, sym, ap, ap₂, ◌∙◌}
use Rattle.wk_text_rules.specs.Marked.{trimmed_output}
use Rattle.std.proofs.lemmas.Result.{err_from_is_err_and}
use Rattle.wk_view_rules.specs.Expand.{function_output, new_search, operand, switch_output}
use Rattle.wk_view_rules.specs.Expansions.{Output, give}
use Rattle.wk_view_rules.specs.declared.Func.{Func}
use Rattle.wk_view_rules.specs.declared.Func.TheVariants.{IfExist}
use Rattle.wk_expand.specs.Decisions.{decision_rest}
use Rattle.wk_expand.proofs.DecideLaws.{if-blank, switch-is}
use Rattle.wk_expand.proofs.ExistsLaws.{by_test}
use Rattle.wk_expand.proofs.RunLaws.{comes-in, comes-itself, comes-out, leads-err, stops-as}
use Rattle.wk_expand.proofs.state.Expander.function.Goals as goal

pub returns-then-is_blank_behind-clause-leads : goal.returns-then-is_blank_behind-clause-leads
returns-then-is_blank_behind-clause-leads c =
    λ inner viewed frame name parts count.
    let first = trimmed_output (drop c.args.place c.args.title.now) in
    let result = operand inner viewed frame 3 parts in
    comes-in c.args.seen.now (function_output inner viewed frame c.args.func first parts) result result c.args.self.now c.args.self.now
    (ap (λ (func : Func). function_output inner viewed frame func first parts) c.in-If.is ∙ if-blank inner viewed frame first parts true (sym c.if-is_blank_behind.ensures))
    (comes-itself c.args.seen.now result c.args.self.now)

pub returns-in_err-exists-in-IfExist-clause-leads : goal.returns-in_err-exists-in-IfExist-clause-leads
returns-in_err-exists-in-IfExist-clause-leads c =
    λ inner viewed frame name parts count.
    let first = c.in_ok-first-in-IfExist.first in
    let same : trimmed_output (drop c.args.place c.args.title.now) ≡ first = sym c.in_ok-first-in-IfExist.ensures in
    let whole = function_output inner viewed frame c.args.func (trimmed_output (drop c.args.place c.args.title.now)) parts in
    let p = err_from_is_err_and c.from_residual-in_err-exists-in-IfExist.result c.from_residual-in_err-exists-in-IfExist.ensures.1 in
    leads-err c.args.seen.now whole c.args.self.now (decision_rest inner viewed frame name parts) c.from_residual-in_err-exists-in-IfExist.result c.exists.new.self c.in_err-exists-in-IfExist.field-0.0 p.0 p.1 p.2
    (stops-as c.args.seen.now whole (function_output inner viewed frame IfExist first parts) c.args.self.now c.in_err-exists-in-IfExist.field-0.0
    (ap₂ (λ (func : Func) (out : Output). function_output inner viewed frame func out parts) c.in-IfExist.is same)
    (c.in_err-exists-in-IfExist.ensures.leads inner viewed frame parts))

pub returns-then-branch-clause-leads : goal.returns-then-branch-clause-leads
returns-then-branch-clause-leads c =
    λ inner viewed frame name parts count.
    let first = c.in_ok-first-in-IfExist.first in
    let same : trimmed_output (drop c.args.place c.args.title.now) ≡ first = sym c.in_ok-first-in-IfExist.ensures in
    let whole = function_output inner viewed frame c.args.func (trimmed_output (drop c.args.place c.args.title.now)) parts in
    let test = by_test inner viewed frame parts in
    comes-out c.args.seen.now whole (test c.in_ok-exists-in-IfExist.field-0) (operand inner viewed frame 2 parts) c.args.self.now c.exists.new.self (ap test c.if-branch.true)
    (comes-in c.args.seen.now whole (function_output inner viewed frame IfExist first parts) (test c.in_ok-exists-in-IfExist.field-0) c.args.self.now c.exists.new.self
    (ap₂ (λ (func : Func) (out : Output). function_output inner viewed frame func out parts) c.in-IfExist.is same)
    (c.in_ok-exists-in-IfExist.ensures.leads inner viewed frame parts))

pub returns-else-is_blank_behind-clause-leads : goal.returns-else-is_blank_behind-clause-leads
returns-else-is_blank_behind-clause-leads c =
    λ inner viewed frame name parts count.
    let first = trimmed_output (drop c.args.place c.args.title.now) in
    let result = operand inner viewed frame 2 parts in
    comes-in c.args.seen.now (function_output inner viewed frame c.args.func first parts) result result c.args.self.now c.args.self.now
    (ap (λ (func : Func). function_output inner viewed frame func first parts) c.in-If.is ∙ if-blank inner viewed frame first parts false (sym c.if-is_blank_behind.ensures))
    (comes-itself c.args.seen.now result c.args.self.now)

pub returns-else-branch-clause-leads : goal.returns-else-branch-clause-leads
returns-else-branch-clause-leads c =
    λ inner viewed frame name parts count.
    let first = c.in_ok-first-in-IfExist.first in
    let same : trimmed_output (drop c.args.place c.args.title.now) ≡ first = sym c.in_ok-first-in-IfExist.ensures in
    let whole = function_output inner viewed frame c.args.func (trimmed_output (drop c.args.place c.args.title.now)) parts in
    let test = by_test inner viewed frame parts in
    comes-out c.args.seen.now whole (test c.in_ok-exists-in-IfExist.field-0) (operand inner viewed frame 3 parts) c.args.self.now c.exists.new.self (ap test c.if-branch.false)
    (comes-in c.args.seen.now whole (function_output inner viewed frame IfExist first parts) (test c.in_ok-exists-in-IfExist.field-0) c.args.self.now c.exists.new.self
    (ap₂ (λ (func : Func) (out : Output). function_output inner viewed frame func out parts) c.in-IfExist.is same)
    (c.in_ok-exists-in-IfExist.ensures.leads inner viewed frame parts))

pub returns-in_ok-first-in-Switch-clause-leads : goal.returns-in_ok-first-in-Switch-clause-leads
returns-in_ok-first-in-Switch-clause-leads c =
    λ inner viewed frame name parts count.
    let first = c.in_ok-first-in-Switch.first in
    let same : trimmed_output (drop c.args.place c.args.title.now) ≡ first = sym c.in_ok-first-in-Switch.ensures in
    let search = switch_output inner viewed frame (new_search first) parts in
    comes-in c.args.seen.now (function_output inner viewed frame c.args.func (trimmed_output (drop c.args.place c.args.title.now)) parts) search search c.args.self.now c.args.self.now
    (ap₂ (λ (func : Func) (out : Output). function_output inner viewed frame func out parts) c.in-Switch.is same ∙ switch-is inner viewed frame first parts)
    (comes-itself c.args.seen.now search c.args.self.now)

pub returns-then-branch-clause-same : goal.returns-then-branch-clause-same
returns-then-branch-clause-same c = (c.in_ok-exists-in-IfExist.ensures.leads (λ frame items. give []) c.args.self.now.page [] []).same

pub returns-else-branch-clause-same : goal.returns-else-branch-clause-same
returns-else-branch-clause-same c = (c.in_ok-exists-in-IfExist.ensures.leads (λ frame items. give []) c.args.self.now.page [] []).same
