use Rattle.wk_replica_serving.proofs.SharedLaws.{alone-of}
use Rattle.wk_replica_serving.proofs.taker.take_line.Goals as goal

pub returns-clause-taken : goal.returns-clause-taken
returns-clause-taken g c =
    alone-of c.args.shared.now c.args.pass.now c.take_apart-taken.new.pass c.args.line.now c.point-before.result c.point.result c.take_apart-taken.result c.alone_or.result
    c.point-before.ensures.length c.point.ensures.length c.take_apart-taken.ensures.taken c.alone_or.ensures
