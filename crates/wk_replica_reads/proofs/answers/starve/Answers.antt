use Rattle.wk_replica_reads.proofs.Answering.{present-point, starved-told}
use Rattle.wk_replica_reads.proofs.answers.starve.Goals as goal

pub returns : goal.returns
returns g c = λ parsed.
    starved-told c.args.shared.now c.args.pass.now c.look-point.new.pass c.look-point.ensures.pass parsed c.no_memory.result _
    (present-point c.args.shared.now c.args.pass.now c.look-point.new.pass c.look-point.ensures.pass _ c.look-point.ensures.point) c.no_memory.ensures.point c.no_memory.ensures.value
