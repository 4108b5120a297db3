use Rattle.wk_shared.specs.Calls.{MayFail}
use Rattle.wk_session.proofs.Acting.{starved-now, starved-timed}
use Rattle.wk_session.proofs.acts.starve.Goals as goal

pub returns-clause-unread : goal.returns-clause-unread
returns-clause-unread g c = λ parsed.
    starved-now c.args.shared.now (MayFail c.args.shared.now.start) c.args.reader.now.pass c.look-point.new.reader.pass _ parsed c.no_memory.result
    c.look-point.ensures.pass c.look-point.ensures.own c.no_memory.ensures.point c.no_memory.ensures.value

pub returns-clause-timed : goal.returns-clause-timed
returns-clause-timed g c = λ parsed moments are.
    starved-timed c.args.shared.now (MayFail c.args.shared.now.start) c.args.reader.now.pass c.look-point.new.reader.pass _ parsed c.no_memory.result
    c.look-point.ensures.pass c.look-point.ensures.own c.no_memory.ensures.point moments are c.no_memory.ensures.value
