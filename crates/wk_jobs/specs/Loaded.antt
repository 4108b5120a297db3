-- The jobs of the rows of the job table, added one after the other.
use Rattle.std.specs.Prelude.{◌≡◌, ℕ, ◌+◌, true, false, bytes_eq, List, [], ◌∷◌, ◌++◌, map, take, Option, Some, None, if◌then◌else◌}
use Rattle.std.specs.HashMap.{HashMap, get}
use Rattle.std.specs.Option.{IsSomeAnd}
use Rattle.wk_text_rules.specs.Titles.{PageTitle, is_normal, title_eq}
use Rattle.wk_page_rules.specs.History.{page_number}
use Rattle.wk_table_rules.specs.GoodStore.{is_fan_params}
use Rattle.wk_table_rules.specs.JobTable.{fan_cmd, refresh_cmd}
use Rattle.wk_table_rules.specs.Rows.{JobColumns, PageColumns, StoreTables}
use Rattle.wk_table_rules.specs.Stored.{page_of_row}
use Rattle.wk_wiki_rules.specs.Jobs.{JobLists, has_fan, has_refresh, refresh_queued}
use Rattle.wk_wiki_rules.specs.Steps.{fan_of_row, jobs_of_tables}

-- the number of the page with this title, among the pages of these rows
abbrev pub number_in : List PageColumns → PageTitle → Option ℕ
number_in pages title = page_number (record { revisions = []; pages = map page_of_row pages }) title

-- the map has the number of each page, by its title
abbrev pub AreNumbers : {S : Type 0} → HashMap PageTitle ℕ S → List PageColumns → Type 0
AreNumbers numbers pages = (title : PageTitle) → get title_eq numbers title ≡ number_in pages title

-- the page has a number, and no refresh job yet
abbrev pub CanBeRefresh : Option ℕ → JobLists → Type 0
CanBeRefresh page lists = IsSomeAnd page (λ number. has_refresh lists number ≡ false)

-- the row is that of a fan job of a title that has none yet
pub record CanBeFan (row : JobColumns) (lists : JobLists) : Type 0 where
  pub cmd : row.job_cmd ≡ fan_cmd
  pub title : is_normal row.job_title ≡ true
  pub params : is_fan_params row.job_params ≡ true
  pub none : has_fan lists row.job_title ≡ false

-- the lists and, at their end, the job of the row, of whose title's page this is the number
abbrev pub with_row : Option ℕ → JobColumns → JobLists → JobLists
with_row page row lists =
    if bytes_eq row.job_cmd refresh_cmd
    then elim page [ None ↦ lists | Some number ↦ refresh_queued (record lists { next = row.job_id }) number ]
    else elim (fan_of_row row) [ None ↦ lists | Some job ↦ record lists { fans = lists.fans ++ job ∷ []; next = job.number + 1 } ]

-- the jobs of the first so many rows
abbrev pub jobs_so_far : StoreTables → ℕ → JobLists
jobs_so_far tables n = jobs_of_tables (record tables { jobs = take n tables.jobs })
