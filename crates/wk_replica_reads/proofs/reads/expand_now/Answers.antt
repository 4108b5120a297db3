use Rattle.wk_request.specs.Asked.{request_asked}
use Rattle.wk_request_rules.specs.Requests.{valid}
use Rattle.wk_replica_reads.proofs.Answering.{on-since}
use Rattle.wk_replica_reads.proofs.reads.expand_now.Goals as goal

pub returns-in-Err : goal.returns-in-Err
returns-in-Err g c = c.starve.ensures (valid (request_asked c.args.request.now))

pub returns-then-not-reach : goal.returns-then-not-reach
returns-then-not-reach g c =
    on-since c.args.shared.now c.args.pass.now c.reach.new.pass c.answer_now-then-not-reach.new.pass (valid (request_asked c.args.request.now)) c.answer_now-then-not-reach.result
    c.reach.ensures.pass c.answer_now-then-not-reach.ensures

pub returns : goal.returns
returns g c =
    on-since c.args.shared.now c.args.pass.now c.reach.new.pass c.answer_by_read.new.pass (valid (request_asked c.args.request.now)) c.answer_by_read.result c.reach.ensures.pass c.answer_by_read.ensures
