-- What happens to a wiki, and what each event does (own; saves, link rows and jobs are those of MediaWiki's
-- Manual:Revision table, Manual:Page table and Manual:Job queue).
use Rattle.std.specs.Prelude.{ℕ, ◌+◌, ◌-◌, List, [], ◌∷◌, ◌++◌, slice_set, Option, Some, None, is_some, option_map, if◌then◌else◌}
use Rattle.wk_text_rules.specs.Titles.{PageTitle}
use Rattle.wk_page_rules.specs.History.{page_number, page_exists, page_to_save, can_save, saved}
use Rattle.wk_page_rules.specs.PageRows.{PageRows, no_rows}
use Rattle.wk_view_rules.specs.Rows.{rows}
use Rattle.wk_wiki_rules.specs.Jobs.{JobLists, first_queued, page_held_by, claimed_by, given_back, refresh_dropped}
use Rattle.wk_wiki_rules.specs.Steps.{reach_of_save, after_save, after_fan, fan_pages}
use Rattle.wk_wiki_rules.specs.States.{State, title_at, world_of}

pub data Event : Type 0 where
  -- a title, the text as it is kept, or nothing for a deletion, and the moment in seconds since 1970
  Save : PageTitle → Option (List ℕ) → ℕ → Event
  -- the first refresh job that waits gets a ticket
  Claim : Event
  -- the refresh with this ticket has set its page's link rows
  Done : ℕ → Event
  -- the refresh with this ticket has been given back, with nothing set
  Back : ℕ → Event
  -- the first fan job has served its next pages
  Fan : Event

-- ---- a save

-- the stored link rows, with none for a page whose title is new
abbrev pub stored_with : State → PageTitle → List PageRows
stored_with state title = if is_some (page_number state.history title) then state.stored else state.stored ++ no_rows ∷ []

-- the page exists after the save exactly where there is a text
abbrev pub jobs_after_save : State → PageTitle → Option (List ℕ) → JobLists
jobs_after_save state title text =
    after_save (stored_with state title) state.jobs (page_to_save state.history title) title
    (reach_of_save (page_exists state.history title) (is_some text))

-- A save appends a revision, and queues a refresh of its page and a fan of its title as the rules of jobs say. No link
-- row changes.
abbrev pub with_saved : State → PageTitle → Option (List ℕ) → ℕ → State
with_saved state title text moment = record {
  history = saved state.history title text moment;
  stored = stored_with state title;
  jobs = jobs_after_save state title text;
}

-- ---- a refresh

-- The page's stored link rows are those that it has in the present world, and its job goes. What was drafted for it, and
-- when, plays no part.
abbrev pub with_refreshed : State → ℕ → State
with_refreshed state page = record state {
  stored = slice_set state.stored (page - 1) (rows (world_of state) (title_at state.history page));
  jobs = refresh_dropped state.jobs page;
}

abbrev pub with_jobs : State → JobLists → State
with_jobs state jobs = record state { jobs = jobs }

-- ---- steps

-- The state after an event in a journal of this length, where a fan serves at most so many pages; nothing where the
-- event isn't possible. A ticket is the number that its claim has in the journal, from 1.
abbrev pub step_by : ℕ → State → ℕ → Event → Option State
step_by most state journal (Save title text moment) =
    if can_save state.history title text then Some (with_saved state title text moment) else None
step_by most state journal Claim =
    option_map (λ _. with_jobs state (claimed_by state.jobs (journal + 1))) (first_queued state.jobs)
step_by most state journal (Done ticket) =
    option_map (λ page. with_refreshed state page) (page_held_by state.jobs ticket)
step_by most state journal (Back ticket) =
    option_map (λ page. with_jobs state (given_back state.jobs page)) (page_held_by state.jobs ticket)
step_by most state journal Fan =
    option_map (λ jobs. with_jobs state jobs) (after_fan state.stored most state.jobs)

abbrev pub step : State → ℕ → Event → Option State
step state journal event = step_by fan_pages state journal event
