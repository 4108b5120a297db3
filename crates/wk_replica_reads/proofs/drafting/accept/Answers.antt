use Rattle.std.proofs.Common.{sym, subst}
use Rattle.wk_read_laws.specs.Points.{AreReadSince}
use Rattle.wk_read_laws.proofs.PointLaws.{reads-later}
use Rattle.wk_replica.specs.Replicas.{ReplicaBegun}
use Rattle.wk_replica_reads.proofs.LookLaws.{looked-as, seen-as}
use Rattle.wk_replica_reads.proofs.ReadLaws.{found-behind}
use Rattle.wk_replica_reads.proofs.drafting.accept.Goals as goal

pub accepted-read-requires-clause-since : goal.accepted-read-requires-clause-since
accepted-read-requires-clause-since g c =
    let replica = c.take-held.result.value in
    let taken = c.take-held.ensures.taken in
    let later = reads-later c.args.shared.now.start.wiki c.args.pass.now.seen replica.journal c.requires.since.0 c.args.draft.reads taken.seen c.requires.since.1 in
    (c.requires.since.0, subst (λ (s : ReplicaBegun). AreReadSince s.wiki replica.journal c.requires.since.0 c.args.draft.reads) (sym taken.start) later)

pub returns-clause-pass : goal.returns-clause-pass
returns-clause-pass g c =
    looked-as c.args.shared.now c.args.pass.now c.take-held.new.pass c.take-held.result.value c.take-held.ensures.taken c.give.new.pass c.accepted-read.new.replica c.accepted-read.ensures.same c.give.ensures c.requires.free.turn

pub returns-clause-read : goal.returns-clause-read
returns-clause-read g c =
    let replica = c.take-held.result.value in
    found-behind replica.start c.args.shared.now.start replica.journal c.give.new.pass.seen c.take-held.ensures.taken.start
    (seen-as c.args.shared.now c.args.pass.now c.take-held.new.pass replica c.take-held.ensures.taken c.give.new.pass c.accepted-read.new.replica c.accepted-read.ensures.same c.give.ensures)
    replica.state c.args.draft.page c.args.draft.given c.accepted-read.result c.accepted-read.ensures.read
