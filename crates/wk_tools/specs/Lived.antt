-- What a tool leaves of a wiki: many events, and lives one after the other (own).
use Rattle.std.specs.Prelude.{◌≡◌, Bool, false, List, ◌++◌, length, Some}
use Rattle.std.specs.List.{list_any}
use Rattle.wk_wiki_rules.specs.Steps.{fan_pages}
use Rattle.wk_wiki_rules.specs.States.{State}
use Rattle.wk_wiki_rules.specs.Events.{Event}
use Rattle.wk_wiki_rules.specs.Lives.{replay, replay_from, Lives}
use Rattle.wk_wiki_rules.specs.Entries.{is_save}
use Rattle.wk_core.specs.Seen.{WikiSeen}

-- Each of these events was made, one after the other: the wiki began as before, its journal is longer by them, and its
-- state is the one behind them.
pub record HasMadeEach {K : Type 0} (old new : WikiSeen K) (events : List Event) : Type 0 where
  pub start : new.start ≡ old.start
  pub journal : new.journal ≡ old.journal ++ events
  pub replayed : replay_from fan_pages old.state (length old.journal) events ≡ Some new.state

abbrev pub has_save : List Event → Bool
has_save journal = list_any is_save journal

-- The state is given by lives: the first goes on from the wiki's journal by the events that were added, and each of the
-- later ones, if there are any, begins with a restart. None of them adds a save.
pub record HasLived {K : Type 0} (old new : WikiSeen K) : Type 0 where
  pub added : List Event
  -- the state in which the first of the lives ended, and the journals of the later ones
  pub ended : State
  pub later : List (List Event)
  pub goes_on : replay old.start.state (old.journal ++ added) ≡ Some ended
  pub lives : Lives ended later new.state
  pub adds_no_save : has_save added ≡ false
  pub saves_nothing : list_any has_save later ≡ false
