-- How far a replica that threads share has taken its feed (own).
use Rattle.std.specs.Prelude.{◌≡◌, ⊤, ℕ, ◌+◌, List, length, Option, Some, Result, Ok, Err}
use Rattle.wk_wiki_rules.specs.Events.{Event}
use Rattle.wk_wiki_rules.specs.States.{State}
use Rattle.wk_life_laws.specs.Runs.{IsRun}
use Rattle.wk_lines.specs.Reading.{Reading}
use Rattle.wk_feed_rules.specs.Taking.{FeedRun, running}
use Rattle.wk_turn.specs.Told.{Begun, Story}
use Rattle.wk_replica.specs.Replicas.{ReplicaBegun}
use Rattle.wk_replica.specs.declared.refusal.TakeRefusal.{TakeRefusal}
use Rattle.wk_replica.specs.declared.refusal.TakeRefusal.TheVariants as refusal
use Rattle.wk_replica_reads.specs.Taking.{TakesLine}
use Rattle.wk_replica_serving.specs.Feeds.{HasTakenFeed}
use Rattle.wk_replica_serving.specs.declared.ends.FeedEnd.{FeedEnd}
use Rattle.wk_replica_serving.specs.declared.ends.FeedEnd.TheVariants.{Ended, Bad, ReadFault, Bound, Memory}

-- a run of the shared replica that has these events
abbrev pub run_behind : Begun ReplicaBegun → Story ReplicaBegun Event → State → FeedRun
run_behind shared pass state = record { from = shared.start.wiki.state; events = pass.seen; state = state }

-- The lines of the feed that are done tell the start of the shared replica, and the events that the pass has seen of it.
pub record HasTakenShared (shared : Begun ReplicaBegun) (pass : Story ReplicaBegun Event) (reading : Reading) (rest later : Option (List ℕ)) : Type 0 where
  pub line : ℕ
  pub line_is : shared.start.line ≡ Some line
  pub state : State
  pub run : IsRun shared.start.wiki pass.seen state
  pub taken : HasTakenFeed rest later reading (running (run_behind shared pass state)) (line + length pass.seen)

-- What came of a line that was taken of a replica of which nobody else takes one: as many events were seen behind it as there are then.
abbrev pub IsAlone : ℕ → ℕ → Result (Unit {0}) TakeRefusal → Result (Unit {0}) FeedEnd → Type 0
IsAlone before behind taken (Ok end) = (taken ≡ Ok end) × (behind ≡ before + 1)
IsAlone before behind taken (Err Ended) = ⊥
IsAlone before behind taken (Err (Bad number)) = (taken ≡ Err (refusal.BadLine number)) × (behind ≡ before)
IsAlone before behind taken (Err ReadFault) = ⊥
IsAlone before behind taken (Err Bound) = ⊥
IsAlone before behind taken (Err Memory) = ⊤

-- A line was taken, and by whom nobody else did; or it is bad; or memory was wanting.
abbrev pub TakesAlone : Begun ReplicaBegun → Story ReplicaBegun Event → Story ReplicaBegun Event → List ℕ → Result (Unit {0}) FeedEnd → Type 0
TakesAlone shared old new line result =
    (taken : Result (Unit {0}) TakeRefusal) × (TakesLine shared old new line taken × IsAlone (length old.seen) (length new.seen) taken result)
