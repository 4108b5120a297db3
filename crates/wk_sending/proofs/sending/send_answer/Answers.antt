use Rattle.std.proofs.Common.{◌≡◌, ◌∙◌}
use Rattle.std.specs.Prelude.{string_bytes}
use Rattle.wk_sending.proofs.Sent.{nothing-sent, ok-of, sent-as}
use Rattle.wk_sending.proofs.sending.send_answer.Goals as goal

pub returns-in-Ok-clause-sent : goal.returns-in-Ok-clause-sent
returns-in-Ok-clause-sent g c = λ message reply last carries.
    let body : string_bytes c.in-Ok.body ≡ reply.body = ok-of c.args.answer.now.body c.in-Ok.body (λ b. string_bytes b ≡ reply.body) c.in-Ok.is carries.body in
    sent-as message reply c.args.answer.now.status c.as_bytes.result.now c.args.close _ _ c.send.result last carries.status (c.as_bytes.ensures.value ∙ body) c.send.ensures.sent

pub returns-in-Err-clause-sent : goal.returns-in-Err-clause-sent
returns-in-Err-clause-sent g c = λ message reply last carries. nothing-sent reply.status reply.body message.last _
