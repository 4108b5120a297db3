-- How what a wiki keeps begins, and what an event and a seal make of it (own).
use Rattle.std.specs.Prelude.{◌≡◌, ℕ, Bool, false, [], ◌∷◌, ◌++◌, length, None, Some}
use Rattle.wk_page_rules.specs.History.{next_revision}
use Rattle.wk_page_rules.specs.Verdict.{MostHeld}
use Rattle.wk_wiki_rules.specs.States.{State}
use Rattle.wk_wiki_rules.specs.Events.{Event, step}
use Rattle.wk_wiki_rules.specs.Entries.{entries_from}
use Rattle.wk_wiki_rules.specs.Starts.{Start, kept_of}
use Rattle.wk_wiki_rules.specs.declared.Entry.{Entry}
use Rattle.wk_life_laws.specs.Lives.{Life, IsLife, journal_of, start_of}

-- ---- the beginning

-- the start of a wiki that begins in this state
abbrev pub new_start : State → MostHeld → Bool → Start
new_start state limits whole = record { state = state; limits = limits; whole = whole; tells = false; failed = None; sealed = None }

-- what a wiki keeps that begins in this state
abbrev pub begun : State → MostHeld → Bool → Life
begun state limits whole = record {
  kept = kept_of state;
  limits = limits;
  whole = whole;
  sealed = None;
  entries = [];
  state = state;
}

-- this is what a wiki keeps that has this start, and no event yet
pub record Begins (life : Life) (told : Start) : Type 0 where
  pub is : IsLife life
  pub start : start_of life ≡ told
  pub journal : journal_of life ≡ []

-- ---- an event

-- one entry more, and this state
abbrev pub with_entry : Life → Entry → State → Life
with_entry life entry state = record life { entries = life.entries ++ entry ∷ []; state = state }

-- the entry of this event more, and this state
abbrev pub with_event : Life → Event → State → Life
with_event life event state = record life {
  entries = life.entries ++ entries_from (next_revision life.state.history) (event ∷ []);
  state = state;
}

-- This is what the wiki keeps behind the event: its start is the same, its journal longer by the event, and its state the
-- next one.
pub record IsNext (life : Life) (event : Event) (next : Life) : Type 0 where
  pub is : IsLife next
  pub start : start_of next ≡ start_of life
  pub journal : journal_of next ≡ journal_of life ++ event ∷ []
  pub done : step life.state (length (journal_of life)) event ≡ Some next.state

-- ---- a seal

-- sealed at this point
abbrev pub with_seal : Life → ℕ → Life
with_seal life point = record life { sealed = Some point }
