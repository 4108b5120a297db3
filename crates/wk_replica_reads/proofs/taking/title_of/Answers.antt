use Rattle.wk_replica_reads.proofs.LookLaws.{looked}
use Rattle.wk_replica_reads.proofs.taking.title_of.Goals as goal

pub returns : goal.returns
returns g c =
    looked c.args.shared.now c.args.pass.now c.take-held.new.pass c.take-held.result.value c.take-held.ensures.taken c.give.new.pass c.give.ensures c.requires.turn
