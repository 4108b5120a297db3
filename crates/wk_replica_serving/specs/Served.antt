-- Links that were served while a feed was taken (own).
use Rattle.std.specs.Prelude.{◌≡◌, ℕ, Option, Result, Ok, Err}
use Rattle.wk_door.specs.Told.{DoorCounts}
use Rattle.wk_door.specs.Entrances.{IsEntered, IsOver}
use Rattle.wk_door.specs.declared.entrance.Taken.{Taken}
use Rattle.wk_replica_serving.specs.declared.ends.FeedEnd.{FeedEnd}
use Rattle.wk_replica_serving.specs.declared.ends.FeedEnd.TheVariants.{Ended, Memory}

-- So many links of at most so many were taken of the door, and where the feed was taken to its end, no more are; or memory ran out
-- before the first was, and the door is as it was.
abbrev pub HasServedReads : {E : Type 0} → Option DoorCounts → Option DoorCounts → ℕ → ℕ → ℕ → Result Taken E → FeedEnd → Type 0
HasServedReads told now faults faults_now most (Ok taken) end =
    IsEntered told now faults faults_now most taken.count taken.shut × (end ≡ Ended → IsOver most taken.count taken.shut)
HasServedReads told now faults faults_now most (Err memory) end = (now ≡ told) × (faults_now ≡ faults) × (end ≡ Memory)
