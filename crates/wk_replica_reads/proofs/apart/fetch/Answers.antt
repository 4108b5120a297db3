use Rattle.wk_replica_reads.proofs.LookLaws.{looked, seen-is}
use Rattle.wk_replica_reads.proofs.ReadLaws.{fetched-behind}
use Rattle.wk_replica_reads.proofs.apart.fetch.Goals as goal

pub returns-clause-pass : goal.returns-clause-pass
returns-clause-pass g c =
    looked c.args.shared.now c.args.pass.now c.take-held.new.pass c.take-held.result.value c.take-held.ensures.taken c.give.new.pass c.give.ensures c.requires.turn

pub returns-clause-answered : goal.returns-clause-answered
returns-clause-answered g c =
    let replica = c.take-held.result.value in
    fetched-behind replica.start c.args.shared.now.start replica.journal c.give.new.pass.seen c.take-held.ensures.taken.start
    (seen-is c.args.shared.now c.args.pass.now c.take-held.new.pass replica c.take-held.ensures.taken c.give.new.pass c.give.ensures) c.args.title.now c.args.kind c.fetched-answer.result c.fetched-answer.ensures
