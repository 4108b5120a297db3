-- What a wiki keeps from its opening on, the start and the journal that it tells of this, and what holds of them at all
-- times (own).
use Rattle.std.specs.Prelude.{ℕ, ◌≤◌, All, Bool, false, length, List, None, Option}
use Rattle.wk_page_rules.specs.Verdict.{MostHeld}
use Rattle.wk_wiki_rules.specs.States.{State}
use Rattle.wk_wiki_rules.specs.Events.{Event}
use Rattle.wk_wiki_rules.specs.Entries.{events_of}
use Rattle.wk_wiki_rules.specs.Room.{HasRoom}
use Rattle.wk_wiki_rules.specs.Starts.{Start, StartKept, told_start}
use Rattle.wk_wiki_rules.specs.declared.Entry.{Entry}
use Rattle.wk_life_laws.specs.Standing.{EntryStands}
use Rattle.wk_life_laws.specs.Runs.{IsRun}

-- what a wiki keeps from its opening, or from its last restart, on
pub record Life : Type 0 where
  -- what is kept of the state at the start
  pub kept : StartKept
  pub limits : MostHeld
  -- the keeper of the tables can't fail
  pub whole : Bool
  -- the point from which on the journal gets no save, where there is one
  pub sealed : Option ℕ
  -- an entry for each event since the start, in their order
  pub entries : List Entry
  -- the present state
  pub state : State

-- what it tells of the start; of the keeper nothing else is kept
abbrev pub start_of : Life → Start
start_of life = record {
  state = told_start life.kept life.state.history;
  limits = life.limits;
  whole = life.whole;
  tells = false;
  failed = None;
  sealed = life.sealed;
}

abbrev pub journal_of : Life → List Event
journal_of life = events_of life.state.history life.entries

-- What holds of what a wiki keeps.
pub record IsLife (life : Life) : Type 0 where
  pub run : IsRun (start_of life) (journal_of life) life.state
  -- what stood at the start stands now
  pub revisions : life.kept.revisions ≤ length life.state.history.revisions
  pub pages : life.kept.pages ≤ length life.state.history.pages
  -- each entry that is a save has its revision
  pub stand : All (EntryStands life.state.history) life.entries
  -- the journal, and an event for each ticket that is out, are within the limit
  pub room : HasRoom life.limits life.state (length life.entries)
