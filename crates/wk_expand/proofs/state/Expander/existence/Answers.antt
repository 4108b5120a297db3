use Rattle.std.proofs.Common.{sym, ap}
use Rattle.std.proofs.lemmas.Result.{err_from_is_err_and}
use Rattle.wk_view_rules.specs.Expand.{by_existence}
use Rattle.wk_view_rules.specs.Expansions.{answer_to, ◌>>=◌}
use Rattle.wk_view_rules.specs.declared.Kind.TheVariants.{Exists}
use Rattle.wk_expand.specs.Answers.{answer_of}
use Rattle.wk_expand.proofs.ExistsLaws.{by_answer, by_test, existence-asks}
use Rattle.wk_expand.proofs.RunLaws.{comes-bind, comes-in, comes-out, leads-err, stops-as, stops-bind}
use Rattle.wk_expand.proofs.state.Expander.existence.Goals as goal

pub returns-in_err-answer-clause-leads : goal.returns-in_err-answer-clause-leads
returns-in_err-answer-clause-leads c =
    λ inner viewed frame parts.
    let whole = by_existence inner viewed frame c.args.title.now parts in
    let next = by_answer inner viewed frame parts in
    let p = err_from_is_err_and c.from_residual.result c.from_residual.ensures.1 in
    leads-err c.args.seen.now whole c.args.self.now (by_test inner viewed frame parts) c.from_residual.result c.answer.new.self c.in_err-answer.field-0.0 p.0 p.1 p.2
    (stops-as c.args.seen.now whole (answer_to c.args.title.now Exists >>= next) c.args.self.now c.in_err-answer.field-0.0 (existence-asks inner viewed frame c.args.title.now parts)
    (stops-bind c.args.seen.now (answer_to c.args.title.now Exists) next c.args.self.now c.in_err-answer.field-0.0 c.in_err-answer.ensures.leads))

pub returns-clause-leads : goal.returns-clause-leads
returns-clause-leads c =
    λ inner viewed frame parts.
    let whole = by_existence inner viewed frame c.args.title.now parts in
    let next = by_answer inner viewed frame parts in
    let answer = answer_of c.in_ok-answer.answer in
    comes-out c.args.seen.now whole (next answer) (by_test inner viewed frame parts c.is_there.result) c.args.self.now c.answer.new.self (ap (by_test inner viewed frame parts) (sym c.is_there.ensures))
    (comes-in c.args.seen.now whole (answer_to c.args.title.now Exists >>= next) (next answer) c.args.self.now c.answer.new.self (existence-asks inner viewed frame c.args.title.now parts)
    (comes-bind c.args.seen.now (answer_to c.args.title.now Exists) next c.args.self.now answer c.answer.new.self c.in_ok-answer.ensures.leads))
