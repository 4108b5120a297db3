-- What holds at all times of the start, the journal and the state that a wiki tells (own).
use Rattle.std.specs.Prelude.{◌≡◌, List}
use Rattle.wk_wiki_rules.specs.Steps.{fan_pages}
use Rattle.wk_wiki_rules.specs.States.{State}
use Rattle.wk_wiki_rules.specs.Events.{Event}
use Rattle.wk_wiki_laws.specs.Kept.{IsKept}
use Rattle.wk_wiki_laws.specs.Reached.{IsWithinFull}
use Rattle.wk_wiki_rules.specs.Calls.{CallsMake}
use Rattle.wk_wiki_rules.specs.Entries.{KeepsSeal}
use Rattle.wk_wiki_rules.specs.Room.{tickets_out}
use Rattle.wk_wiki_rules.specs.Starts.{Start}

-- The journal is one that calls make from the start, under its limits, and the state is the one behind it.
pub record IsRun (start : Start) (journal : List Event) (state : State) : Type 0 where
  pub full : IsWithinFull start.limits
  -- the start is of good form
  pub kept : IsKept start.state
  -- no ticket is out at the start
  pub none_out : tickets_out start.state ≡ 0
  pub calls : CallsMake fan_pages start.limits start.state journal state
  pub seal : KeepsSeal start.sealed journal
