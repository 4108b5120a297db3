use Rattle.std.proofs.Common.{refl}
use Rattle.std.proofs.lemmas.Result.{err_from_is_err_and}
use Rattle.wk_view_rules.specs.Expansions.{answer_to, give}
use Rattle.wk_expand.specs.Answers.{answer_of}
use Rattle.wk_expand.specs.declared.state.Expander.{Expander}
use Rattle.wk_expand.proofs.ReadLaws.{answer-comes, answer-stops}
use Rattle.wk_expand.proofs.RunLaws.{leads-err}
use Rattle.wk_expand.proofs.state.Expander.answer.Goals as goal

pub returns-in_err-answer-clause-leads : goal.returns-in_err-answer-clause-leads
returns-in_err-answer-clause-leads c =
    let p = err_from_is_err_and c.from_residual.result c.from_residual.ensures.1 in
    leads-err c.args.seen.now (answer_to c.args.title.now c.args.kind) c.args.self.now (λ answer. give (answer_of answer)) c.from_residual.result c.args.self.now c.in_err-answer.field-0.0 p.0 p.1 p.2
    (answer-stops c.args.seen.now c.args.title.now c.args.kind c.args.self.now c.in_err-answer.field-0.0 c.in_err-answer.ensures.missing)

pub returns-clause-leads : goal.returns-clause-leads
returns-clause-leads c =
    let after : Expander = record c.args.self.now { reads = c.note.new.self } in
    answer-comes c.args.seen.now c.args.title.now c.args.kind (answer_of c.in_ok-answer.answer) c.args.self.now after c.in_ok-answer.ensures.answer refl refl c.in_ok-note.ensures refl
