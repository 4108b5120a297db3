use Rattle.wk_http.specs.Requests.{message_in}
use Rattle.wk_shared.specs.Calls.{MayFail}
use Rattle.wk_session_rules.specs.Replies.{asked}
use Rattle.wk_session.proofs.Asking.{untimed}
use Rattle.wk_session.proofs.asks.answer_asked.Goals as goal

pub returns-in-Err : goal.returns-in-Err
returns-in-Err g c =
    let parsed = asked (message_in c.args.message.now) in
    untimed c.args.shared.now (MayFail c.args.shared.now.start) c.args.worker.now.reader.pass c.decline.new.reader.pass parsed
    (g.C.Clock.left c.args.clock.now) c.decline.result (c.decline.ensures parsed c.in-Err.ensures.err)
