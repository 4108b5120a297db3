use Rattle.wk_http.specs.Requests.{message_in}
use Rattle.wk_session_rules.specs.Replies.{asked}
use Rattle.wk_replica_reads.proofs.messages.answer_asked.Goals as goal

pub returns-in-Err : goal.returns-in-Err
returns-in-Err g c = c.decline.ensures (asked (message_in c.args.message.now)) c.in-Err.ensures.err
