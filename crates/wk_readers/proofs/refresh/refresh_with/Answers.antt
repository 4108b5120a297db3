use Rattle.wk_readers.proofs.StepLaws.{claimed-step, fanned-step, fault-step, full-step, idle-step, wanting-step}
use Rattle.wk_readers.proofs.refresh.refresh_with.Goals as goal

pub returns-in-Idle : goal.returns-in-Idle
returns-in-Idle g c = idle-step c.args.shared.now c.args.pass.now c.begin.new.pass c.in-Idle.claimed c.in-Idle.ensures

pub returns-in-Fanned : goal.returns-in-Fanned
returns-in-Fanned g c = fanned-step c.args.shared.now c.args.pass.now c.begin.new.pass c.in-Fanned.fanned c.in-Fanned.ensures

pub returns-in-Claimed : goal.returns-in-Claimed
returns-in-Claimed g c =
    claimed-step c.args.shared.now c.args.pass.now c.begin.new.pass c.in-Claimed.ticket c.in-Claimed.ensures c.bring_in.new.pass c.bring_in.result c.bring_in.ensures

pub returns-in-JournalFull : goal.returns-in-JournalFull
returns-in-JournalFull g c = full-step c.args.shared.now c.args.pass.now c.begin.new.pass c.in-JournalFull.ensures

pub returns-in-StoreFault : goal.returns-in-StoreFault
returns-in-StoreFault g c = fault-step c.args.shared.now c.args.pass.now c.begin.new.pass c.in-StoreFault.ensures

pub returns-in-Memory : goal.returns-in-Memory
returns-in-Memory g c = wanting-step c.args.shared.now c.args.pass.now c.begin.new.pass c.in-Memory.ensures
