use Rattle.std.proofs.Common.{None}
use Rattle.wk_replica_reads.proofs.LookLaws.{looked-as, seen-as}
use Rattle.wk_replica_reads.proofs.ReadLaws.{found-behind}
use Rattle.wk_replica_reads.proofs.drafting.seek.Goals as goal

pub returns-clause-pass : goal.returns-clause-pass
returns-clause-pass g c =
    looked-as c.args.shared.now c.args.pass.now c.take-held.new.pass c.take-held.result.value c.take-held.ensures.taken c.give.new.pass c.find_kept-read.new.replica c.find_kept-read.ensures.same c.give.ensures c.requires.turn

pub returns-clause-read : goal.returns-clause-read
returns-clause-read g c =
    let replica = c.take-held.result.value in
    found-behind replica.start c.args.shared.now.start replica.journal c.give.new.pass.seen c.take-held.ensures.taken.start
    (seen-as c.args.shared.now c.args.pass.now c.take-held.new.pass replica c.take-held.ensures.taken c.give.new.pass c.find_kept-read.new.replica c.find_kept-read.ensures.same c.give.ensures)
    replica.state c.args.title.now None c.find_kept-read.result c.find_kept-read.ensures.read
