-- Links that were served (own).
use Rattle.std.specs.Prelude.{◌≡◌, ℕ, IsErr, IsOk, Option, Result, Ok, Err}
use Rattle.wk_door.specs.Told.{DoorCounts}
use Rattle.wk_door.specs.Entrances.{IsEntered, IsOver}
use Rattle.wk_door.specs.declared.entrance.Taken.{Taken}

-- So many links of at most so many were taken of the door, and no more are; or none was, and the door is as it was.
abbrev pub HasServed : {E : Type 0} → Option DoorCounts → Option DoorCounts → ℕ → ℕ → ℕ → Result Taken E → Type 0
HasServed told now faults faults_now most (Ok taken) = IsEntered told now faults faults_now most taken.count taken.shut × IsOver most taken.count taken.shut
HasServed told now faults faults_now most (Err memory) = (now ≡ told) × (faults_now ≡ faults)

-- The same where the events are sent besides: where not all were, fewer links may have been taken.
abbrev pub HasServedFed : {E N F : Type 0} → Option DoorCounts → Option DoorCounts → ℕ → ℕ → ℕ → Result Taken E → Result N F → Type 0
HasServedFed told now faults faults_now most (Ok taken) sent =
    IsEntered told now faults faults_now most taken.count taken.shut × (IsOk sent → IsOver most taken.count taken.shut)
HasServedFed told now faults faults_now most (Err memory) sent = (now ≡ told) × (faults_now ≡ faults) × IsErr sent
