-- What a line makes of a replica (own).
use Rattle.std.specs.Prelude.{◌≡◌, ℕ, ◌+◌, true, false, List, [], ◌∷◌, ◌++◌, Result, Ok, Err, Some, None, IsUtf8, ◌⊎◌, ⊤}
use Rattle.wk_wiki_rules.specs.Events.{Event}
use Rattle.wk_feed_rules.specs.Lines.{FeedLine}
use Rattle.wk_feed_rules.specs.Taking.{line_taken, taken}
use Rattle.wk_replica.specs.Replicas.{ReplicaSeen, lines_taken, so_far}
use Rattle.wk_replica.specs.declared.refusal.TakeRefusal.{TakeRefusal}
use Rattle.wk_replica.specs.declared.refusal.TakeRefusal.TheVariants.{BadLine, Memory}

-- Once the start was told it stays, and each line is one event.
pub record GoesOn (old new : ReplicaSeen) : Type 0 where
  pub start : new.start ≡ old.start
  pub event : Event
  pub journal : new.journal ≡ old.journal ++ event ∷ []

-- A line was taken: there is one more, and the replica isn't stopped.
pub record HasGoneOn (old new : ReplicaSeen) : Type 0 where
  pub lines : lines_taken new ≡ lines_taken old + 1
  pub going : new.stopped ≡ false
  pub event : (number : ℕ) → old.start.line ≡ Some number → GoesOn old new

-- The line was taken that says this.
pub record HasTaken (old : ReplicaSeen) (line : FeedLine) (new : ReplicaSeen) : Type 0 where
  pub told : line_taken (so_far old) line ≡ Some (so_far new)
  pub goes_on : HasGoneOn old new

-- The line was taken that has these bytes.
pub record HasTakenLine (old : ReplicaSeen) (line : List ℕ) (new : ReplicaSeen) : Type 0 where
  pub text : IsUtf8 line
  pub told : taken (so_far old) line ≡ Some (so_far new)
  pub goes_on : HasGoneOn old new

-- it is stopped, and else as it was
abbrev pub stopped_at : ReplicaSeen → ReplicaSeen
stopped_at old = record old { stopped = true }

-- memory ran out: it is as it was, or it is stopped
abbrev pub IsLeft : ReplicaSeen → ReplicaSeen → Type 0
IsLeft old new = (new ≡ old) ⊎ (new ≡ stopped_at old)

-- the line that says this was taken; or it is bad, with its number, and the replica as it was; or memory ran out
abbrev pub IsTaken : {T : Type 0} → ReplicaSeen → FeedLine → ReplicaSeen → Result T TakeRefusal → Type 0
IsTaken old line new (Ok _) = HasTaken old line new
IsTaken old line new (Err (BadLine number)) =
    (number ≡ lines_taken old + 1) × (line_taken (so_far old) line ≡ None) × (new ≡ old)
IsTaken old line new (Err Memory) = IsLeft old new

-- the same of the line that has these bytes, which is bad too where they aren't UTF-8
abbrev pub IsTakenLine : {T : Type 0} → ReplicaSeen → List ℕ → ReplicaSeen → Result T TakeRefusal → Type 0
IsTakenLine old line new (Ok _) = HasTakenLine old line new
IsTakenLine old line new (Err (BadLine number)) =
    (number ≡ lines_taken old + 1) × (IsUtf8 line → taken (so_far old) line ≡ None) × (new ≡ old)
IsTakenLine old line new (Err Memory) = IsLeft old new

-- what is told of a line that says nothing
abbrev pub IsBadLine : ReplicaSeen → TakeRefusal → Type 0
IsBadLine replica (BadLine number) = number ≡ lines_taken replica + 1
IsBadLine replica Memory = ⊤
