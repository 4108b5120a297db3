-- A wiki that was sealed and went on (own).
use Rattle.std.specs.Prelude.{◌≡◌, ◌+◌, ◌≤◌, false, List, [], ◌++◌, length, Some}
use Rattle.std.specs.List.{list_any}
use mathlib.Core.List.{IsPrefix}
use Rattle.wk_wiki_rules.specs.States.{State}
use Rattle.wk_wiki_rules.specs.Events.{Event}
use Rattle.wk_wiki_rules.specs.Lives.{replay}
use Rattle.wk_wiki_rules.specs.Entries.{is_save}
use Rattle.wk_wiki_rules.specs.Starts.{Start}
use Rattle.wk_wiki_laws.specs.Numbers.{pages_ahead}

-- it began as it did before, and was sealed behind this journal, with which its journal begins
pub record IsSealedAt (old new : Start) (before after : List Event) : Type 0 where
  pub start : new ≡ record old { sealed = Some (length before) }
  pub journal : IsPrefix before after

-- Events were added that are no saves: what they leave of the state at the seal.
pub record AddsJobs (start : Start) (before after : List Event) (state last : State) : Type 0 where
  pub added : List Event
  pub journal : after ≡ before ++ added
  pub no_save : list_any is_save added ≡ false
  pub replayed : replay start.state (before ++ added) ≡ Some last
  pub history : last.history ≡ state.history
  pub ahead : last.jobs.next + pages_ahead last ≤ state.jobs.next + pages_ahead state
  -- where no job stood, nothing happened
  pub nothing : state.jobs.refreshes ≡ [] → state.jobs.fans ≡ [] → last ≡ state
