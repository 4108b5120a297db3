use Rattle.std.proofs.Common.{sym, ◌∙◌}
use Rattle.wk_http.specs.Requests.{message_in}
use Rattle.wk_session_rules.specs.Replies.{bare, status_of, told}
use Rattle.wk_session.proofs.Replying.{bare-carried}
use Rattle.wk_replica_reads.specs.Answers.{answered, refused}
use Rattle.wk_replica_reads.proofs.LookLaws.{read-none}
use Rattle.wk_replica_reads.proofs.messages.answer_message.Goals as goal

pub returns-then-status-ne200 : goal.returns-then-status-ne200
returns-then-status-ne200 g c = record {
  pass = read-none c.args.shared.now c.args.pass.now c.requires;
  reply = bare (status_of (message_in c.args.message.now));
  replied = refused (λ is. c.if-status-ne200.true (c.status_of-status.ensures ∙ is));
  carried = bare-carried c.bare.result c.status_of-status.result (status_of (message_in c.args.message.now)) c.status_of-status.ensures c.bare.ensures;
}

pub returns : goal.returns
returns g c =
    let on = c.answer_asked-told.ensures in
    record {
      pass = on.pass;
      reply = told on.reply;
      replied = answered (sym c.status_of-status.ensures ∙ c.if-status-ne200.false) on.answered;
      carried = c.told.ensures on.reply on.value on.point;
    }
