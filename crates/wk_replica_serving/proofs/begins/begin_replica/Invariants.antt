use Rattle.std.proofs.Common.{◌≡◌, ℕ, false}
use Rattle.wk_lines.specs.Reading.{lines_left}
use Rattle.wk_replica.specs.Replicas.{lines_taken, so_far}
use Rattle.wk_replica_serving.specs.Feeds.{HasTakenFeed}
use Rattle.wk_replica_serving.proofs.begins.begin_replica.Given as goal

-- so many lines were taken, without a failure
abbrev pub invariant-taking : goal.invariant-taking
invariant-taking g l =
    HasTakenFeed (g.I.Source.rest l.fn.input) (g.I.Source.rest l.input) l.lines (so_far l.replica) (lines_taken l.replica)
    × (l.replica.stopped ≡ false)
    × (g.I.Source.faults l.input ≡ g.I.Source.faults l.fn.input)

abbrev pub decreases-taking : goal.decreases-taking
decreases-taking g l = lines_left l.lines
