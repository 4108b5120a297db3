-- What a pass has seen when it goes on (own). A point is the length of a journal.
use Rattle.std.specs.Prelude.{◌≡◌, ℕ, ◌≤◌, List, ◌++◌, length, Some}
use mathlib.Core.List.{IsPrefix}
use Rattle.wk_wiki_rules.specs.States.{State}
use Rattle.wk_wiki_rules.specs.Passes.{PassSeen, state_seen}

-- it has seen as much of the journal or more, and made the entries at these places
pub record GoesOn (old new : PassSeen) (made : List ℕ) : Type 0 where
  pub start : new.start ≡ old.start
  pub seen : IsPrefix old.journal new.journal
  pub own : new.own ≡ old.own ++ made

-- this is the state at a point that it has seen, which is no older than what it had seen before
pub record IsStateAt (old new : PassSeen) (point : ℕ) (state : State) : Type 0 where
  pub later : length old.journal ≤ point
  pub seen : point ≤ length new.journal
  pub stands : state_seen new point ≡ Some state
