-- What a journal of events gives, what a restart gives, and the lives of a wiki from one restart to the next (own).
use Rattle.std.specs.Prelude.{◌≡◌, ℕ, ◌+◌, ◌==◌, List, [], ◌∷◌, length, take, Option, Some, option_and_then, if◌then◌else◌}
use Rattle.std.specs.List.{range_with_len}
use Rattle.wk_table_rules.specs.Rows.{StoreTables}
use Rattle.wk_wiki_rules.specs.Steps.{fan_pages, all_queued, reopened_jobs}
use Rattle.wk_wiki_rules.specs.States.{State}
use Rattle.wk_wiki_rules.specs.Events.{Event, step_by}
use Rattle.wk_wiki_rules.specs.Tables.{state_of}

-- ---- a journal

-- the events one after the other, behind a journal of this length; nothing where one of them isn't possible
abbrev pub replay_from : ℕ → State → ℕ → List Event → Option State
replay_from most state journal [] = Some state
replay_from most state journal (event ∷ events) =
    option_and_then (λ next. replay_from most next (journal + 1) events) (step_by most state journal event)

-- the events one after the other, from the start of a journal, where a fan serves at most so many pages
abbrev pub replay_by : ℕ → State → List Event → Option State
replay_by most start events = replay_from most start 0 events

abbrev pub replay : State → List Event → Option State
replay start events = replay_by fan_pages start events

-- the state at a point of a journal: after so many of its first events
abbrev pub state_at : State → List Event → ℕ → Option State
state_at start events point = replay start (take point events)

-- ---- restarts

-- After a restart each refresh job waits, in the order of their numbers, and numbers go on from the greatest job that
-- stands. All else stays as it was.
abbrev pub reopened : State → State
reopened state = record state { jobs = reopened_jobs state.jobs }

-- a refresh of each page that has none, in the order of the pages
abbrev pub all_refreshed : State → State
all_refreshed state = record state { jobs = all_queued state.jobs (range_with_len 1 (length state.history.pages)) }

-- The state of a wiki that is opened over a store. Version 1 has no redirect rows, so what it holds may be behind, and
-- each page is refreshed.
abbrev pub opened : StoreTables → State
opened tables = let state = state_of tables in reopened (if tables.version == 1 then all_refreshed state else state)

-- ---- lives

-- The state in which lives from a state end, each with its journal: each begins with a restart of the state in which
-- the one before it ended.
abbrev pub last_state : State → List (List Event) → Option State
last_state start [] = Some start
last_state start (journal ∷ journals) = option_and_then (λ ended. last_state ended journals) (replay (reopened start) journal)

-- The state in which lives from a store end: the first begins as the store is opened.
abbrev pub last_state_of_store : StoreTables → List (List Event) → Option State
last_state_of_store tables [] = Some (opened tables)
last_state_of_store tables (journal ∷ journals) =
    option_and_then (λ ended. last_state ended journals) (replay (opened tables) journal)

-- the journals are lives from the state, and end in the last one
abbrev pub Lives : State → List (List Event) → State → Type 0
Lives start journals last = last_state start journals ≡ Some last

-- the journals are lives from the store, and end in the last state
abbrev pub LivesOfStore : StoreTables → List (List Event) → State → Type 0
LivesOfStore tables journals last = last_state_of_store tables journals ≡ Some last
