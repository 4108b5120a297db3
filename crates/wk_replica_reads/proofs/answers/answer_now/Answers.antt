use Rattle.std.proofs.Common.{◌∙◌, ap, sym, length}
use Rattle.wk_request.specs.Asked.{request_asked}
use Rattle.wk_request_rules.specs.Requests.{valid}
use Rattle.wk_replica_reads.proofs.Answering.{given-told, present-point, starved-told}
use Rattle.wk_replica_reads.proofs.LookLaws.{looked, seen-is}
use Rattle.wk_replica_reads.proofs.ReadLaws.{given-behind}
use Rattle.wk_replica_reads.proofs.answers.answer_now.Goals as goal

pub returns-in-Ok : goal.returns-in-Ok
returns-in-Ok g c =
    let shared = c.args.shared.now in
    let replica = c.take-held.result.value in
    let taken = c.take-held.ensures.taken in
    let all = seen-is shared c.args.pass.now c.take-held.new.pass replica taken c.give.new.pass c.give.ensures in
    given-told shared c.args.pass.now c.give.new.pass (looked shared c.args.pass.now c.take-held.new.pass replica taken c.give.new.pass c.give.ensures c.requires.turn) (request_asked c.args.request.now) c.in-Ok.value
    c.taken-point.result (given-behind replica.start shared.start replica.journal c.give.new.pass.seen taken.start all (request_asked c.args.request.now) c.in-Ok.value c.in-Ok.ensures) (c.taken-point.ensures ∙ ap length (sym all))

pub returns-in-Err : goal.returns-in-Err
returns-in-Err g c =
    let shared = c.args.shared.now in
    let replica = c.take-held.result.value in
    let taken = c.take-held.ensures.taken in
    let all = seen-is shared c.args.pass.now c.take-held.new.pass replica taken c.give.new.pass c.give.ensures in
    let read = looked shared c.args.pass.now c.take-held.new.pass replica taken c.give.new.pass c.give.ensures c.requires.turn in
    starved-told shared c.args.pass.now c.give.new.pass read (valid (request_asked c.args.request.now)) c.no_memory.result c.taken-point.result
    (present-point shared c.args.pass.now c.give.new.pass read c.taken-point.result (c.taken-point.ensures ∙ ap length (sym all))) c.no_memory.ensures.point c.no_memory.ensures.value
