-- Jobs by their kind.
use Rattle.std.specs.Prelude.{Bool, List, bytes_eq, if◌then◌else◌}
use Rattle.wk_text_rules.specs.Titles.{PageTitle}
use Rattle.wk_table_rules.specs.Rows.{JobColumns, StoreTables}
use Rattle.wk_table_rules.specs.JobTable.{fan_cmd, refresh_cmd}
use Rattle.wk_table_rules.specs.GoodStore.{is_good_fan, is_good_refresh}
use Rattle.wk_good_rows.specs.Among.{IsTitlesOfJobs}

-- the row is good as a job of its kind
abbrev pub is_good_kind : StoreTables → List JobColumns → JobColumns → Bool
is_good_kind tables before job = if bytes_eq job.job_cmd refresh_cmd then is_good_refresh tables before job else is_good_fan before job

-- these are the titles of the jobs, by their kind
pub record AreTitlesOf (refreshes fans : List PageTitle) (jobs : List JobColumns) : Type 0 where
  pub of_refreshes : IsTitlesOfJobs refreshes refresh_cmd jobs
  pub of_fans : IsTitlesOfJobs fans fan_cmd jobs
