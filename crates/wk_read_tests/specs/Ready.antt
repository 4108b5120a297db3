-- Passes of what threads share.
use Rattle.std.specs.Prelude.{IsSome}
use Rattle.wk_wiki_rules.specs.Events.{Event}
use Rattle.wk_turn.specs.Told.{Begun, Story}
use Rattle.wk_replica.specs.Replicas.{ReplicaBegun}
use Rattle.wk_replica_reads.specs.Looks.{IsFree}

-- the pass is of this shared replica, which has taken the line of the start, and hasn't taken it
abbrev pub IsServing : Begun ReplicaBegun → Story ReplicaBegun Event → Type 0
IsServing shared pass = IsFree shared pass × IsSome shared.start.line
