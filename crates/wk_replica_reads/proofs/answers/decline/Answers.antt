use Rattle.std.proofs.Common.{refl}
use Rattle.wk_replica_reads.proofs.Answering.{declined-told, present-point}
use Rattle.wk_replica_reads.proofs.answers.decline.Goals as goal

pub returns : goal.returns
returns g c = λ parsed refuses.
    declined-told c.args.shared.now c.args.pass.now c.look-point.new.pass c.look-point.ensures.pass parsed c.args.refusal.now _ _
    (present-point c.args.shared.now c.args.pass.now c.look-point.new.pass c.look-point.ensures.pass _ c.look-point.ensures.point) refl refuses c.declined-value.ensures
