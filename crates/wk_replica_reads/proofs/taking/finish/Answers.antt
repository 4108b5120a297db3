use Rattle.std.proofs.Common.{◌∙◌, inl, sym, subst}
use mathlib.Core.List.{IsPrefix}
use Rattle.wk_feed_rules.specs.Lines.{done}
use Rattle.wk_read_laws.specs.Points.{AreReadSince}
use Rattle.wk_read_laws.proofs.PointLaws.{reads-later}
use Rattle.wk_replica.specs.Replicas.{ReplicaBegun, ReplicaSeen}
use Rattle.wk_replica_reads.specs.Taking.{DoesSaidLine}
use Rattle.wk_replica_reads.proofs.TakeLaws.{begun-here, done-free, done-in, said-begins}
use Rattle.wk_replica_reads.proofs.taking.finish.Goals as goal

pub finish_here-taken-requires-clause-since : goal.finish_here-taken-requires-clause-since
finish_here-taken-requires-clause-since g c =
    let replica = c.take-held.result.value in
    let taken = c.take-held.ensures.taken in
    let later = reads-later c.args.shared.now.start.wiki c.args.pass.now.seen replica.journal c.requires.since.0 c.args.draft.reads taken.seen c.requires.since.1 in
    (c.requires.since.0, subst (λ (s : ReplicaBegun). AreReadSince s.wiki replica.journal c.requires.since.0 c.args.draft.reads) (sym taken.start) later)

pub give_taken-requires-clause-start : goal.give_taken-requires-clause-start
give_taken-requires-clause-start g c =
    let before = c.take-held.result.value in
    let taken = c.take-held.ensures.taken in
    (said-begins before c.finish_here-taken.new.replica (done c.args.ticket) c.finish_here-taken.result (begun-here c.args.shared.now c.args.pass.now c.take-held.new.pass before taken c.requires.begun) c.finish_here-taken.ensures.taken).0 ∙ taken.start

pub give_taken-requires-clause-journal : goal.give_taken-requires-clause-journal
give_taken-requires-clause-journal g c =
    let before = c.take-held.result.value in
    let taken = c.take-held.ensures.taken in
    subst (λ (r : ReplicaSeen). IsPrefix r.journal c.finish_here-taken.new.replica.journal) (sym c.take-held.ensures.before)
    (said-begins before c.finish_here-taken.new.replica (done c.args.ticket) c.finish_here-taken.result (begun-here c.args.shared.now c.args.pass.now c.take-held.new.pass before taken c.requires.begun) c.finish_here-taken.ensures.taken).1

pub returns-clause-free : goal.returns-clause-free
returns-clause-free g c =
    done-free c.args.shared.now c.args.pass.now c.take-held.new.pass c.take-held.result.value c.take-held.ensures.taken c.finish_here-taken.new.replica _ c.give_taken.new.pass c.take-held.ensures.before c.give_taken.ensures c.requires.free.turn

pub returns-clause-taken : goal.returns-clause-taken
returns-clause-taken g c =
    inl (done-in c.args.shared.now c.args.pass.now c.take-held.new.pass c.take-held.result.value c.take-held.ensures.taken c.finish_here-taken.new.replica _ c.give_taken.new.pass c.take-held.ensures.before c.give_taken.ensures
    (λ before after. DoesSaidLine before (done c.args.ticket) after c.finish_here-taken.result) (c.finish_here-taken.ensures.taken, c.finish_here-taken.ensures.running))
