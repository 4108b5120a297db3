-- What comes next of a feed (own).
use Rattle.std.specs.Prelude.{◌≡◌, ⊤, ℕ, ◌+◌, ◌<◌, List, [], ◌∷◌, Option, None, Some, Result, Ok, Err}
use Rattle.wk_lines.specs.Reading.{Reading, Reads, ReadsToEnd, StopsReading, lines_left}
use Rattle.wk_lines.specs.declared.stop.Stop.{Stop}
use Rattle.wk_lines.specs.declared.stop.Stop.TheVariants as stop
use Rattle.wk_replica.specs.Replicas.{ReplicaSeen}
use Rattle.wk_replica.specs.Taken.{HasTakenLine, IsTakenLine}
use Rattle.wk_replica.specs.declared.refusal.TakeRefusal.{TakeRefusal}
use Rattle.wk_replica.specs.declared.refusal.TakeRefusal.TheVariants as refusal
use Rattle.wk_replica_serving.specs.declared.ends.FeedEnd.{FeedEnd}
use Rattle.wk_replica_serving.specs.declared.ends.FeedEnd.TheVariants.{Ended, Bad, ReadFault, Bound, Memory}

-- the next line was read; or the input is at its end
abbrev pub GivesLine : Reading → Reading → Option (List ℕ) → Option (List ℕ) → Option (List ℕ) → Type 0
GivesLine old new rest later (Some line) = Reads old new rest later (Some line ∷ []) × (lines_left new < lines_left old)
GivesLine old new rest later None = (given : List (Option (List ℕ))) × ReadsToEnd old new rest later given

-- of a line that was read these are the bytes
abbrev pub IsLine : List (Option (List ℕ)) → Option (List ℕ) → Type 0
IsLine given None = ⊥
IsLine given (Some line) = given ≡ Some line ∷ []

-- why no line comes where the reader stopped so
abbrev pub end_of_stop : Stop → FeedEnd
end_of_stop stop.Memory = Memory
end_of_stop stop.ReadFault = ReadFault
end_of_stop stop.WriteFault = Memory
end_of_stop stop.Bound = Bound

-- no line comes for this cause
abbrev pub IsUnread : Reading → Reading → Option (List ℕ) → Option (List ℕ) → FeedEnd → Type 0
IsUnread old new rest later Ended = ⊥
IsUnread old new rest later (Bad number) = ⊥
IsUnread old new rest later ReadFault = ⊤
IsUnread old new rest later Bound = StopsReading old new rest later stop.Bound
IsUnread old new rest later Memory = ⊤

-- why no more lines are taken where one was refused so
abbrev pub end_of_refusal : TakeRefusal → FeedEnd
end_of_refusal (refusal.BadLine number) = Bad number
end_of_refusal refusal.Memory = Memory

-- the line behind so many isn't there
abbrev pub IsEarly : ℕ → FeedEnd → Type 0
IsEarly lines Ended = ⊥
IsEarly lines (Bad number) = number ≡ lines + 1
IsEarly lines ReadFault = ⊥
IsEarly lines Bound = ⊥
IsEarly lines Memory = ⊤

-- A line was taken, or refused for this cause.
abbrev pub TakesEarly : ReplicaSeen → List ℕ → ReplicaSeen → Result (Unit {0}) FeedEnd → Type 0
TakesEarly old line new (Ok done) = HasTakenLine old line new
TakesEarly old line new (Err why) =
    (refused : TakeRefusal) × (IsTakenLine {T = Unit {0}} old line new (Err refused) × (why ≡ end_of_refusal refused))
