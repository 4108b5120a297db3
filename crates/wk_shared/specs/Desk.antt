-- A wiki that is taken for a call, and given back (own).
use Rattle.std.specs.Prelude.{◌≡◌, ℕ, Bool, List, ◌++◌, length, Option, Some, None, option_to_list}
use mathlib.Core.List.{IsPrefix}
use Rattle.wk_wiki_rules.specs.Events.{Event}
use Rattle.wk_wiki_rules.specs.Entries.{closes}
use Rattle.wk_wiki_rules.specs.Starts.{Start}
use Rattle.wk_life_laws.specs.Runs.{IsRun}
use Rattle.wk_core.specs.Seen.{WikiSeen, failed_where}
use Rattle.wk_turn.specs.Journal.{AreOwn, IsOpen, added}
use Rattle.wk_turn.specs.Told.{Begun, Story}

-- The wiki that a pass has taken: it began as the shared wiki did, its journal begins with what the pass had seen, and
-- what the pass left open is open still.
pub record IsTaken {K : Type 0} (shared : Begun Start) (old new : Story Start Event) (wiki : WikiSeen K) : Type 0 where
  pub pass : new ≡ record old { held = Some wiki.journal }
  pub start : wiki.start ≡ shared.start
  pub seen : IsPrefix old.seen wiki.journal
  pub own : AreOwn closes wiki.journal old.own
  pub still_open : (p : ℕ) → IsOpen closes old.seen old.own p → IsOpen closes wiki.journal old.own p
  pub run : IsRun wiki.start wiki.journal wiki.state

-- The start tells of the keeper: whether it is whole, and how often it had failed, where it can't any more.
pub record TellsOf {K : Type 0} (is_whole : K → Bool) (faults : K → ℕ) (start : Start) (keeper : K) : Type 0 where
  pub whole : is_whole keeper ≡ start.whole
  pub failed : failed_where (is_whole keeper) (faults keeper) ≡ start.failed

-- what the event closes, if there is one and it closes any, is open and one of these places
abbrev pub ClosesOpen : List Event → List ℕ → Option Event → Type 0
ClosesOpen journal own None = Unit {0}
ClosesOpen journal own (Some event) = (p : ℕ) → closes event ≡ Some p → IsOpen closes journal own p

-- the wiki began as before, and its journal is longer by at most one event
pub record MakesAtMostOne {K : Type 0} (own : List ℕ) (old new : WikiSeen K) : Type 0 where
  pub event : Option Event
  pub start : new.start ≡ old.start
  pub journal : new.journal ≡ old.journal ++ option_to_list event
  pub closing : ClosesOpen old.journal own event

-- The wiki that a pass has given back: the pass has seen its whole journal, and what was added is its own.
pub record IsGiven {K : Type 0} (old new : Story Start Event) (before after : WikiSeen K) (point : ℕ) : Type 0 where
  pub pass : new ≡ record old { seen = after.journal; own = old.own ++ added before.journal after.journal; held = None }
  pub tells : point ≡ length after.journal
  pub run : IsRun after.start after.journal after.state
