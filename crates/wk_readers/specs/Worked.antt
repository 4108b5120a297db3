-- What steps of a worker leave of its pass (own). A point is the length of a journal, and a place is one less.
use Rattle.std.specs.Prelude.{◌≡◌, ℕ, ◌≤◌, false, List, ◌++◌, length, slice_get, Some, None}
use mathlib.Core.List.{IsPrefix}
use Rattle.wk_wiki_rules.specs.States.{State}
use Rattle.wk_wiki_rules.specs.Events.{Event, Claim}
use Rattle.wk_wiki_rules.specs.Entries.{closes, is_save}
use Rattle.wk_wiki_rules.specs.Starts.{Start}
use Rattle.wk_life_laws.specs.Runs.{IsRun}
use Rattle.wk_turn.specs.Journal.{Closes, IsListed}
use Rattle.wk_turn.specs.Told.{Begun, IsOf, Story}

-- the entry at this place is there, it is none of the first so many, and it isn't a save
pub record IsJobEntry (journal : List Event) (from place : ℕ) : Type 0 where
  pub since : from ≤ place
  pub event : Event
  pub there : slice_get journal place ≡ Some event
  pub no_save : is_save event ≡ false

-- A pass behind one step or more: it is free, it has seen more of the journal or as much, and what it has seen is a run of
-- the wiki. What the steps added is its own, and no save, and each claim that they added is closed: they let no ticket out.
pub record HasWorked (shared : Begun Start) (old new : Story Start Event) : Type 0 where
  pub turn : IsOf shared new
  pub free : new.held ≡ None
  pub seen : IsPrefix old.seen new.seen
  pub state : State
  pub run : IsRun shared.start new.seen state
  pub added : List ℕ
  pub own : new.own ≡ old.own ++ added
  pub jobs : (place : ℕ) → IsListed added place → IsJobEntry new.seen (length old.seen) place
  pub closed : (place : ℕ) → IsListed added place → slice_get new.seen place ≡ Some Claim → (q : ℕ) × Closes closes new.seen q place
