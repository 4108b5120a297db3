use Rattle.std.proofs.Common.{refl, ap, ◌∙◌, ◌++◌}
use Rattle.std.specs.Option.{option_to_list}
use Rattle.wk_http.specs.Requests.{message_in}
use Rattle.wk_shared.specs.Calls.{MayFail}
use Rattle.wk_session.proofs.Replying.{nothing-replied, replied-with}
use Rattle.wk_session.proofs.serving.reply_to.Goals as goal

pub returns-in-Err-clause-replied : goal.returns-in-Err-clause-replied
returns-in-Err-clause-replied g c = nothing-replied _ _ _ _ c.args.points.now.items _ c.reserve.ensures.items

pub returns-clause-replied : goal.returns-clause-replied
returns-clause-replied g c =
    replied-with c.args.shared.now (MayFail c.args.shared.now.start) c.args.worker.now.reader.pass c.answer_message-answer.new.worker.reader.pass
    (message_in c.args.message.now) _ _ _ _ _ _ c.answer_message-answer.result c.args.points.now.items _ _ c.args.message.now.last
    c.send_answer.ensures.rest c.answer_message-answer.ensures refl
    (c.note.ensures ∙ ap (λ l. l ++ option_to_list c.answer_message-answer.result.point) c.reserve.ensures.items) c.send_answer.ensures.sent
