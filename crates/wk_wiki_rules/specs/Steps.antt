-- What a save, a fan and a restart do to the job lists, and the rows that the job table has of them (own).
use Rattle.std.specs.Prelude.{ℕ, ◌+◌, Bool, true, false, ◌||◌, ◌==◌, nat_lt, List, [], ◌∷◌, ◌++◌, length, map, fold, max, bytes_eq, Option, None, unwrap_or, option_map, if◌then◌else◌}
use Rattle.std.specs.List.{filter_map, last_or}
use Rattle.wk_text_rules.specs.Titles.{PageTitle}
use Rattle.wk_page_rules.specs.History.{page_number}
use Rattle.wk_page_rules.specs.PageRows.{PageRows}
use Rattle.wk_page_rules.specs.declared.Reach.{Reach}
use Rattle.wk_page_rules.specs.declared.Reach.TheVariants.{Text, Both}
use Rattle.wk_table_rules.specs.Rows.{JobColumns, StoreTables}
use Rattle.wk_table_rules.specs.Stored.{history_of}
use Rattle.wk_table_rules.specs.JobTable.{refresh_cmd, fan_cmd, fan_params, refresh_row, fan_row}
use Rattle.wk_wiki_rules.specs.Users.{some_page_names, users}
use Rattle.wk_wiki_rules.specs.Jobs.{RefreshEntry, FanEntry, JobLists, has_fan, first_fan, queued_again, refresh_queued, fan_set, fan_moved, fan_dropped}

-- ---- a save

-- A save reaches the pages that test the title's existence only where the existence changed.
abbrev pub reach_of_save : Bool → Bool → Reach
reach_of_save true true = Text
reach_of_save false false = Text
reach_of_save true false = Both
reach_of_save false true = Both

-- The page gets a refresh job where it has none. Then its title's fan job begins anew where one stands; else one is
-- added exactly where some page's link rows, its own among them, name the title.
abbrev pub after_save : List PageRows → JobLists → ℕ → PageTitle → Reach → JobLists
after_save stored lists page title reach =
    let queued = refresh_queued lists page in
    if has_fan queued title || some_page_names stored title reach then fan_set queued title reach else queued

-- ---- a fan

-- the most pages that one fan serves
abbrev pub fan_pages : ℕ
fan_pages = 300

-- each of these pages that has no refresh job gets one, in order
abbrev pub all_queued : JobLists → List ℕ → JobLists
all_queued lists pages = fold refresh_queued lists pages

-- the pages that the next fan serves of this job, at most so many: those above its cursor that name its title, in order
abbrev pub next_served : List PageRows → ℕ → FanEntry → List ℕ
next_served stored most fan = users stored fan.title fan.reach fan.cursor most

-- the cursor behind the fan that serves these pages: the last of them, or the cursor as it was where there is none
abbrev pub cursor_behind : List ℕ → ℕ → ℕ
cursor_behind served cursor = unwrap_or (last_or None served) cursor

-- The first fan job's next pages are served. The cursor is then the last of them, and the job goes exactly where no page
-- above that names its title.
abbrev pub after_serving : List PageRows → ℕ → JobLists → FanEntry → JobLists
after_serving stored most lists fan =
    let served = next_served stored most fan in
    let cursor = cursor_behind served fan.cursor in
    let queued = all_queued lists served in
    if length (users stored fan.title fan.reach cursor 1) == 0 then fan_dropped queued else fan_moved queued cursor

-- nothing where no fan job stands
abbrev pub after_fan : List PageRows → ℕ → JobLists → Option JobLists
after_fan stored most lists = option_map (after_serving stored most lists) (first_fan lists)

-- ---- a restart

abbrev pub placed : {Job : Type 0} → (Job → ℕ) → List Job → Job → List Job
placed number [] new = new ∷ []
placed number (job ∷ jobs) new =
    let later = placed number jobs new in if nat_lt (number new) (number job) then new ∷ job ∷ jobs else job ∷ later

-- the jobs in the order of their numbers
abbrev pub by_number : {Job : Type 0} → (Job → ℕ) → List Job → List Job
by_number number jobs = fold (placed number) [] jobs

-- one above the greatest, or 1
abbrev pub next_above : List ℕ → ℕ
next_above numbers = fold max 0 numbers + 1

-- A restart queues each refresh job, in the order of their numbers, and counts on from the jobs that stand.
abbrev pub reopened_jobs : JobLists → JobLists
reopened_jobs lists = record {
  refreshes = map queued_again (by_number (λ job. job.number) lists.refreshes);
  fans = lists.fans;
  next = next_above (map (λ job. job.number) lists.refreshes ++ map (λ job. job.number) lists.fans);
}

-- ---- the job table

-- the rows of the jobs in the order of their numbers; pages have these titles
abbrev pub rows_of_jobs : (ℕ → PageTitle) → JobLists → List JobColumns
rows_of_jobs title_of lists =
    let refreshes = map (λ job. refresh_row job.number (title_of job.page)) lists.refreshes in
    let fans = map (λ job. fan_row job.number job.title (record { reach = job.reach; cursor = job.cursor })) lists.fans in
    by_number (λ row. row.job_id) (refreshes ++ fans)

-- the refresh job of a row, where the row is one
abbrev pub refresh_of_row : StoreTables → JobColumns → Option RefreshEntry
refresh_of_row tables row =
    if bytes_eq row.job_cmd refresh_cmd
    then option_map (λ page. record { number = row.job_id; page = page; ticket = None }) (page_number (history_of tables) row.job_title)
    else None

-- the fan job of a row, where the row is one
abbrev pub fan_of_row : JobColumns → Option FanEntry
fan_of_row row =
    if bytes_eq row.job_cmd fan_cmd
    then option_map (λ params. record { number = row.job_id; title = row.job_title; reach = params.reach; cursor = params.cursor }) (fan_params row.job_params)
    else None

-- the jobs of the rows, each queued, in the order of the rows
abbrev pub jobs_of_tables : StoreTables → JobLists
jobs_of_tables tables = record {
  refreshes = filter_map (refresh_of_row tables) tables.jobs;
  fans = filter_map fan_of_row tables.jobs;
  next = next_above (map (λ row. row.job_id) tables.jobs);
}
