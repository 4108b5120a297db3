use Rattle.std.proofs.Common.{◌≡◌, Result, Err, sym, ap, ◌∙◌, subst}
use Rattle.std.specs.Prelude.{IfOk}
use Rattle.std.proofs.lemmas.Bool.{lt-ltb}
use Rattle.serde_json.specs.View.{view}
use Rattle.wk_request_rules.specs.Requests.{Ask}
use Rattle.wk_request.specs.Asked.{ask_of, read_of, request_asked}
use Rattle.wk_core.specs.declared.outcomes.PageRead.{PageRead}
use Rattle.wk_core.specs.declared.outcomes.ReadRefusal.{ReadRefusal}
use Rattle.wk_core.specs.declared.outcomes.ReadRefusal.TheVariants.{Future}
use Rattle.wk_answer_rules.specs.Saves.{Answered}
use Rattle.wk_answer_rules.specs.Answers.{answer_to_ask}
use Rattle.wk_answer.specs.Readings.{IsRightRead, reading_of}
use Rattle.wk_answer_laws.proofs.Orders.{early}
use Rattle.wk_answer.proofs.ReadFacts.{reached-answer}
use Rattle.wk_answer.proofs.reads.read_reply.Goals as goal

same-refusal : (read : Result PageRead ReadRefusal) (refusal other : ReadRefusal) → read ≡ Err refusal → read ≡ Err other → refusal ≡ other
same-refusal read refusal other is also = cc

pub returns-in-Err-clause-future : goal.returns-in-Err-clause-future
returns-in-Err-clause-future c latest most state moment is later =
    let same : c.in-Err.refusal ≡ Future latest = same-refusal c.args.read.now c.in-Err.refusal (Future latest) c.in-Err.is is in
    subst (λ (a : Answered). IfOk c.early_reply.result (λ v. view v ≡ a.reply.value))
    (sym (early most state latest moment (request_asked c.args.request.now) (lt-ltb latest c.args.request.now.least later)))
    (c.early_reply.ensures latest same)

pub returns-clause-value : goal.returns-clause-value
returns-clause-value c found most state moment is right reached =
    let same : c.in-Ok.found ≡ found = cc in
    let ask = ask_of c.args.request.now.ask in
    let asks : read_of c.in-Read.asked ≡ ask = c.in-Read.ensures in
    let answered = c.found_reply.ensures most state moment
    (subst (λ (a : Ask). IsRightRead state a (reading_of c.in-Ok.found)) (sym asks) (subst (λ (f : PageRead). IsRightRead state ask (reading_of f)) (sym same) right)) in
    subst (λ (a : Answered). IfOk c.found_reply.result (λ v. view v ≡ a.reply.value))
    (ap (λ (a : Ask). answer_to_ask most state c.in-Ok.found.point moment a) asks
    ∙ (ap (λ (f : PageRead). answer_to_ask most state f.point moment ask) same ∙ sym (reached-answer most state found.point moment (request_asked c.args.request.now) c.requires.asked reached))) answered
