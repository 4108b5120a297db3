use Rattle.std.proofs.Common.{◌∙◌, inl, sym, subst}
use mathlib.Core.List.{IsPrefix}
use Rattle.wk_replica.specs.Replicas.{ReplicaSeen}
use Rattle.wk_replica_reads.specs.Taking.{DoesLine}
use Rattle.wk_replica_reads.proofs.TakeLaws.{begun-here, done-free, done-in, line-begins}
use Rattle.wk_replica_reads.proofs.taking.take_held.Goals as goal

pub give_taken-requires-clause-start : goal.give_taken-requires-clause-start
give_taken-requires-clause-start g c =
    let before = c.take-held.result.value in
    let taken = c.take-held.ensures.taken in
    (line-begins before c.take_here-taken.new.replica c.args.line.now c.take_here-taken.result (begun-here c.args.shared.now c.args.pass.now c.take-held.new.pass before taken c.requires.begun) c.take_here-taken.ensures.taken).0 ∙ taken.start

pub give_taken-requires-clause-journal : goal.give_taken-requires-clause-journal
give_taken-requires-clause-journal g c =
    let before = c.take-held.result.value in
    let taken = c.take-held.ensures.taken in
    subst (λ (r : ReplicaSeen). IsPrefix r.journal c.take_here-taken.new.replica.journal) (sym c.take-held.ensures.before)
    (line-begins before c.take_here-taken.new.replica c.args.line.now c.take_here-taken.result (begun-here c.args.shared.now c.args.pass.now c.take-held.new.pass before taken c.requires.begun) c.take_here-taken.ensures.taken).1

pub returns-clause-free : goal.returns-clause-free
returns-clause-free g c =
    done-free c.args.shared.now c.args.pass.now c.take-held.new.pass c.take-held.result.value c.take-held.ensures.taken c.take_here-taken.new.replica _ c.give_taken.new.pass c.take-held.ensures.before c.give_taken.ensures c.requires.free.turn

pub returns-clause-taken : goal.returns-clause-taken
returns-clause-taken g c =
    inl (done-in c.args.shared.now c.args.pass.now c.take-held.new.pass c.take-held.result.value c.take-held.ensures.taken c.take_here-taken.new.replica _ c.give_taken.new.pass c.take-held.ensures.before c.give_taken.ensures
    (λ before after. DoesLine before c.args.line.now after c.take_here-taken.result) (c.take_here-taken.ensures.taken, c.take_here-taken.ensures.running))
