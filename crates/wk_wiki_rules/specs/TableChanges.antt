-- The change of a store's tables that goes with each event (own; the rows are those of MediaWiki's Manual:Database
-- layout). A claim, and a refresh that is given back, change no table.
use Rattle.std.specs.Prelude.{ℕ, ◌==◌, List, [], ◌∷◌, ◌++◌, length, find, Option, Some, None, is_some, unwrap_or, if◌then◌else◌}
use Rattle.std.specs.List.{range_with_len}
use Rattle.wk_text_rules.specs.Titles.{PageTitle, title_eq}
use Rattle.wk_page_rules.specs.History.{History, current_revision, next_revision, page_exists, page_to_save}
use Rattle.wk_page_rules.specs.PageRows.{PageRows}
use Rattle.wk_page_rules.specs.declared.Reach.{Reach}
use Rattle.wk_table_rules.specs.Rows.{PageColumns, RevisionColumns, JobColumns, StoreTables, newest_version}
use Rattle.wk_table_rules.specs.Changes.{TableEdit, add_revision, set_page, set_rows, add_job, set_job, drop_job, set_version}
use Rattle.wk_table_rules.specs.JobTable.{refresh_row, fan_row}
use Rattle.wk_wiki_rules.specs.Jobs.{RefreshEntry, FanEntry, JobLists, has_refresh, is_held_by, refresh_queued, set_anew}
use Rattle.wk_wiki_rules.specs.Steps.{reach_of_save, next_served, cursor_behind}
use Rattle.wk_wiki_rules.specs.Users.{some_page_names, users}
use Rattle.wk_wiki_rules.specs.States.{State, title_at}
use Rattle.wk_wiki_rules.specs.Events.{stored_with}
use Rattle.wk_wiki_rules.specs.Tables.{revision_row, state_of}

-- ---- jobs

-- the row of a fan job
abbrev pub row_of_fan : FanEntry → JobColumns
row_of_fan fan = fan_row fan.number fan.title (record { reach = fan.reach; cursor = fan.cursor })

-- the page's refresh job, where it has none yet; its title is this
abbrev pub refresh_edits : JobLists → ℕ → PageTitle → List TableEdit
refresh_edits lists page title = if has_refresh lists page then [] else add_job (refresh_row lists.next title) ∷ []

-- a refresh job of each of these pages that has none yet, in order
abbrev pub refreshes_edits : (ℕ → PageTitle) → JobLists → List ℕ → List TableEdit
refreshes_edits title_of lists [] = []
refreshes_edits title_of lists (page ∷ pages) =
    let later = refreshes_edits title_of (refresh_queued lists page) pages in refresh_edits lists page (title_of page) ++ later

-- the new row of the title's fan job where one stands, else the row of a new one where some page's rows name the title
abbrev pub fan_edits : List PageRows → JobLists → PageTitle → Reach → List TableEdit
fan_edits stored lists title reach = elim (find (λ fan. title_eq fan.title title) lists.fans) [
  | Some fan ↦ set_job (row_of_fan (set_anew title reach fan)) ∷ []
  | None ↦
      if some_page_names stored title reach
      then add_job (row_of_fan (record { number = lists.next; title = title; reach = reach; cursor = 0 })) ∷ []
      else []
]

-- ---- a save

-- the row of the revision that a save makes
abbrev pub saved_revision : History → PageTitle → Option (List ℕ) → ℕ → RevisionColumns
saved_revision h title text moment = revision_row (
  next_revision h,
  record {
    page = page_to_save h title;
    parent = current_revision h title;
    moment = moment;
    text = text;
  },
)

-- the row that the page of a save has from then on
abbrev pub saved_page : History → PageTitle → Option (List ℕ) → PageColumns
saved_page h title text = record {
  page_id = page_to_save h title;
  page_title = title;
  page_latest = if is_some text then next_revision h else 0;
  page_len = length (unwrap_or text []);
}

-- the revision and the page of a save, and then its jobs
abbrev pub save_change : State → PageTitle → Option (List ℕ) → ℕ → List TableEdit
save_change state title text moment =
    let h = state.history in
    let page = page_to_save h title in
    let reach = reach_of_save (page_exists h title) (is_some text) in
    add_revision (saved_revision h title text moment)
    ∷ set_page (saved_page h title text)
    ∷ refresh_edits state.jobs page title
    ++ fan_edits (stored_with state title) (refresh_queued state.jobs page) title reach

-- ---- a refresh

-- the job that is claimed by this ticket
abbrev pub job_held_by : JobLists → ℕ → Option RefreshEntry
job_held_by lists ticket = find (is_held_by ticket) lists.refreshes

-- the page of the job has these rows from now on, and the job goes
abbrev pub refresh_change : RefreshEntry → PageRows → List TableEdit
refresh_change job new = set_rows job.page new ∷ drop_job job.number ∷ []

-- the same where the page has these rows already
abbrev pub refresh_change_without_rows : RefreshEntry → List TableEdit
refresh_change_without_rows job = drop_job job.number ∷ []

-- ---- a fan

-- the fan job goes where no page above its new cursor names its title; else it has that cursor from now on
abbrev pub served_edit : List PageRows → ℕ → FanEntry → TableEdit
served_edit stored most fan =
    let cursor = cursor_behind (next_served stored most fan) fan.cursor in
    if length (users stored fan.title fan.reach cursor 1) == 0 then drop_job fan.number
    else set_job (row_of_fan (record fan { cursor = cursor }))

-- the refresh jobs of the pages that a fan serves, and then its own
abbrev pub fan_change : ℕ → State → FanEntry → List TableEdit
fan_change most state fan =
    refreshes_edits (title_at state.history) state.jobs (next_served state.stored most fan)
    ++ served_edit state.stored most fan ∷ []

-- ---- a store of version 1

-- The tables get the newest version, and a refresh job of each page that has none, in the order of the pages. Tables of
-- another version don't change.
abbrev pub migration : StoreTables → List TableEdit
migration tables =
    let state = state_of tables in
    if tables.version == 1
    then set_version newest_version
    ∷ refreshes_edits (title_at state.history) state.jobs (range_with_len 1 (length state.history.pages))
    else []
