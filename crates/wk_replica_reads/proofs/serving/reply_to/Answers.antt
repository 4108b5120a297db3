use Rattle.std.proofs.Common.{refl, ap, ◌∙◌, ◌++◌}
use Rattle.std.specs.Option.{option_to_list}
use Rattle.wk_http.specs.Requests.{message_in}
use Rattle.wk_replica_reads.proofs.LookLaws.{read-free}
use Rattle.wk_replica_reads.proofs.Replying.{nothing-replied, replied-with}
use Rattle.wk_replica_reads.proofs.serving.reply_to.Goals as goal

pub returns-in-Err-clause-replied : goal.returns-in-Err-clause-replied
returns-in-Err-clause-replied g c = nothing-replied _ _ _ c.args.points.now.items _ c.reserve.ensures.items

pub returns-clause-free : goal.returns-clause-free
returns-clause-free g c = read-free c.args.shared.now c.args.pass.now c.answer_message-answer.new.pass c.answer_message-answer.ensures.pass

pub returns-clause-replied : goal.returns-clause-replied
returns-clause-replied g c =
    replied-with c.args.shared.now c.args.pass.now c.answer_message-answer.new.pass (message_in c.args.message.now) _ _ _ _ c.answer_message-answer.result c.args.points.now.items _ _ c.args.message.now.last
    c.send_answer.ensures.rest c.answer_message-answer.ensures refl
    (c.note.ensures ∙ ap (λ l. l ++ option_to_list c.answer_message-answer.result.point) c.reserve.ensures.items) c.send_answer.ensures.sent
