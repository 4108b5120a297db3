-- What the event of a line makes of the wiki within a replica (own).
use Rattle.std.specs.Prelude.{◌≡◌, ℕ, Bool, true, [], ◌∷◌, ◌++◌, Result, Ok, Err, IsOk, Some, None}
use Rattle.wk_wiki_rules.specs.Events.{Event}
use Rattle.wk_feed_rules.specs.Lines.{FeedLine}
use Rattle.wk_feed_rules.specs.Taking.{FeedRun, running, with_event_line}
use Rattle.wk_core.specs.Seen.{WikiSeen}
use Rattle.wk_replica.specs.declared.refusal.TakeRefusal.{TakeRefusal}
use Rattle.wk_replica.specs.declared.refusal.TakeRefusal.TheVariants as take
use Rattle.wk_replica.specs.declared.events.EventRefusal.{EventRefusal}
use Rattle.wk_replica.specs.declared.events.EventRefusal.TheVariants.{Bad, Memory, Lost}

-- what is told by a wiki that began with the start
abbrev pub run_of : {K : Type 0} → WikiSeen K → FeedRun
run_of wiki = record { from = wiki.start.state; events = wiki.journal; state = wiki.state }

-- the event of the line was made
pub record HasFollowed {K : Type 0} (old : WikiSeen K) (line : FeedLine) (new : WikiSeen K) : Type 0 where
  pub start : new.start ≡ old.start
  pub event : Event
  pub journal : new.journal ≡ old.journal ++ event ∷ []
  pub told : with_event_line (run_of old) line ≡ Some (running (run_of new))

-- nothing happened
pub record Stays {K : Type 0} (old new : WikiSeen K) : Type 0 where
  pub start : new.start ≡ old.start
  pub journal : new.journal ≡ old.journal
  pub state : new.state ≡ old.state

-- another event was made
pub record HasLost {K : Type 0} (old new : WikiSeen K) : Type 0 where
  pub start : new.start ≡ old.start
  pub event : Event
  pub journal : new.journal ≡ old.journal ++ event ∷ []

-- what came of the line of an event
abbrev pub IsFollowed : {K T : Type 0} → WikiSeen K → FeedLine → WikiSeen K → Result T EventRefusal → Type 0
IsFollowed old line new (Ok _) = HasFollowed old line new
IsFollowed old line new (Err Bad) = (with_event_line (run_of old) line ≡ None) × Stays old new
IsFollowed old line new (Err Memory) = Stays old new
IsFollowed old line new (Err Lost) = HasLost old new

-- what is told of it, for the line with this number, and whether the replica is stopped by it
abbrev pub IsToldOf : {T U : Type 0} → Result T EventRefusal → ℕ → Bool → Bool → Result U TakeRefusal → Type 0
IsToldOf (Ok _) number old new told = IsOk told × (new ≡ old)
IsToldOf (Err Bad) number old new told = (told ≡ Err (take.BadLine number)) × (new ≡ old)
IsToldOf (Err Memory) number old new told = (told ≡ Err take.Memory) × (new ≡ old)
IsToldOf (Err Lost) number old new told = (told ≡ Err take.Memory) × (new ≡ true)
