use Rattle.wk_expand.specs.Steps.{given_text}
use Rattle.wk_replica_reads.proofs.LookLaws.{looked-as, seen-as}
use Rattle.wk_replica_reads.proofs.ReadLaws.{drafted-behind}
use Rattle.wk_replica_reads.proofs.drafting.drafted_held.Goals as goal

pub returns-clause-pass : goal.returns-clause-pass
returns-clause-pass g c =
    looked-as c.args.shared.now c.args.pass.now c.take-held.new.pass c.take-held.result.value c.take-held.ensures.taken c.give.new.pass c.drafted_here-read.new.replica c.drafted_here-read.ensures.same c.give.ensures c.requires.turn

pub returns-clause-read : goal.returns-clause-read
returns-clause-read g c =
    let replica = c.take-held.result.value in
    drafted-behind replica.start c.args.shared.now.start replica.journal c.give.new.pass.seen c.take-held.ensures.taken.start
    (seen-as c.args.shared.now c.args.pass.now c.take-held.new.pass replica c.take-held.ensures.taken c.give.new.pass c.drafted_here-read.new.replica c.drafted_here-read.ensures.same c.give.ensures)
    replica.state c.args.title.now (given_text c.args.root.now) c.drafted_here-read.result c.drafted_here-read.ensures.read
