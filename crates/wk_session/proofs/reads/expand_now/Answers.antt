use Rattle.std.proofs.Common.{[]}
use Rattle.wk_request.specs.Asked.{request_asked}
use Rattle.wk_request_rules.specs.Requests.{valid}
use Rattle.wk_shared.specs.Calls.{MayFail}
use Rattle.wk_session.proofs.Passing.{on-since}
use Rattle.wk_session.proofs.Reading.{expands-no-save, expands-read}
use Rattle.wk_session.proofs.reads.expand_now.Goals as goal

pub answer_now-requires-clause-asks : goal.answer_now-requires-clause-asks
answer_now-requires-clause-asks g c =
    let ask = (request_asked c.args.request.now).ask in expands-no-save ask (expands-read ask c.args.asked.now c.requires.asks)

pub answer_now-requires-then-not-reach-clause-asks : goal.answer_now-requires-then-not-reach-clause-asks
answer_now-requires-then-not-reach-clause-asks g c =
    let ask = (request_asked c.args.request.now).ask in expands-no-save ask (expands-read ask c.args.asked.now c.requires.asks)

pub returns-in-Err : goal.returns-in-Err
returns-in-Err g c = c.starve.ensures.unread (valid (request_asked c.args.request.now))

pub returns-then-not-reach : goal.returns-then-not-reach
returns-then-not-reach g c =
    on-since c.args.shared.now (MayFail c.args.shared.now.start) c.args.worker.now.reader.pass c.reach.new.worker.reader.pass c.answer_now-then-not-reach.new.reader.pass
    (valid (request_asked c.args.request.now)) [] c.answer_now-then-not-reach.result c.reach.ensures.pass c.answer_now-then-not-reach.ensures

pub returns : goal.returns
returns g c =
    on-since c.args.shared.now (MayFail c.args.shared.now.start) c.args.worker.now.reader.pass c.reach.new.worker.reader.pass c.answer_by_read.new.worker.reader.pass
    (valid (request_asked c.args.request.now)) [] c.answer_by_read.result c.reach.ensures.pass c.answer_by_read.ensures
