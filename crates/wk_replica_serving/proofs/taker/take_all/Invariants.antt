use Rattle.std.proofs.Common.{◌≡◌, ℕ, List}
use Rattle.std.specs.Prelude.{IsSome, Option}
use Rattle.wk_lines.specs.Reading.{lines_left}
use Rattle.wk_replica_reads.specs.Looks.{IsFree}
use Rattle.wk_replica_serving.specs.Taken.{HasTakenShared}
use Rattle.wk_replica_serving.proofs.taker.take_all.Given as goal

-- so many lines were taken, without a failure
abbrev pub invariant-taking : goal.invariant-taking
invariant-taking g l =
    IsFree l.shared l.pass
    × IsSome l.shared.start.line
    × ((rest : Option (List ℕ)) → HasTakenShared l.shared l.fn.pass l.fn.lines rest (g.I.Source.rest l.fn.input)
    → HasTakenShared l.shared l.pass l.lines rest (g.I.Source.rest l.input))
    × (g.I.Source.faults l.input ≡ g.I.Source.faults l.fn.input)

abbrev pub decreases-taking : goal.decreases-taking
decreases-taking g l = lines_left l.lines
