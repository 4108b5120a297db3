-- The rows of the jobs stand for the jobs, as a restart has them; and which lists can stand so.
use Rattle.std.proofs.Common.{◌≡◌, ℕ, ◌<◌, ◌^◌, Bool, true, false, cond, List, [], ◌∷◌, ◌++◌, map, Option, Some, None, refl, sym, ap, ◌∙◌}
use Rattle.std.specs.Prelude.{bytes_eq, option_map}
use Rattle.std.specs.List.{AllByRecursion, filter_map}
use Rattle.std.proofs.lemmas.List.{append-nil, map-append}
use Rattle.std.proofs.lemmas.List.Elements.{filter_map-append}
use Rattle.wk_text_rules.specs.Titles.{PageTitle}
use Rattle.wk_page_rules.specs.History.{page_number}
use Rattle.wk_table_rules.specs.Rows.{JobColumns, StoreTables}
use Rattle.wk_table_rules.specs.Stored.{history_of}
use Rattle.wk_table_rules.specs.JobTable.{FanParams, refresh_cmd, fan_cmd, fan_params, refresh_row, fan_row}
use Rattle.wk_table_laws.proofs.JobParams.{fan_params-params_text}
use Rattle.wk_wiki_rules.specs.Jobs.{RefreshEntry, FanEntry, JobLists, queued_again}
use Rattle.wk_wiki_rules.specs.Steps.{by_number, next_above, refresh_of_row, fan_of_row, rows_of_jobs, jobs_of_tables, reopened_jobs}
use Rattle.wk_table_laws.specs.InOrder.{IsInOrder, CanStand}
use Rattle.wk_table_laws.proofs.Order.{filter_map-by_number, by_number-map, by_number-rising, next_above-by_number}

-- the row of a fan job
abbrev row_of_fan : FanEntry → JobColumns
row_of_fan job = fan_row job.number job.title (record { reach = job.reach; cursor = job.cursor })

refresh-keeps : (tables : StoreTables) (row : JobColumns) (job : RefreshEntry) → refresh_of_row tables row ≡ Some job → job.number ≡ row.job_id
refresh-keeps tables row job = go (bytes_eq row.job_cmd refresh_cmd) (page_number (history_of tables) row.job_title)
  where
    go : (b : Bool) (o : Option ℕ) → cond b (option_map (λ (page : ℕ). let entry : RefreshEntry = record { number = row.job_id; page = page; ticket = None } in entry) o) None ≡ Some job → job.number ≡ row.job_id
    go false o e = absurd cc
    go true None e = absurd cc
    go true (Some page) e =
        let same : record { number = row.job_id; page = page; ticket = None } ≡ job = (let some : Some (record { number = row.job_id; page = page; ticket = None }) ≡ Some job = e in cc) in
        ap (λ (entry : RefreshEntry). entry.number) (sym same)

fan-keeps : (row : JobColumns) (job : FanEntry) → fan_of_row row ≡ Some job → job.number ≡ row.job_id
fan-keeps row job = go (bytes_eq row.job_cmd fan_cmd) (fan_params row.job_params)
  where
    go : (b : Bool) (o : Option FanParams) → cond b (option_map (λ (params : FanParams). let entry : FanEntry = record { number = row.job_id; title = row.job_title; reach = params.reach; cursor = params.cursor } in entry) o) None ≡ Some job → job.number ≡ row.job_id
    go false o e = absurd cc
    go true None e = absurd cc
    go true (Some params) e =
        let same : record { number = row.job_id; title = row.job_title; reach = params.reach; cursor = params.cursor } ≡ job =
        (let some : Some (record { number = row.job_id; title = row.job_title; reach = params.reach; cursor = params.cursor }) ≡ Some job = e in cc) in
        ap (λ (entry : FanEntry). entry.number) (sym same)

module _ (tables : StoreTables) (title_of : ℕ → PageTitle) where
  refreshes-read : (jobs : List RefreshEntry) → AllByRecursion (λ job. page_number (history_of tables) (title_of job.page) ≡ Some job.page) jobs
      → filter_map (refresh_of_row tables) (map (λ job. refresh_row job.number (title_of job.page)) jobs) ≡ map queued_again jobs
  refreshes-read [] found = refl
  refreshes-read (job ∷ jobs) found = rw (found.0, refreshes-read jobs found.1) refl

  no-refreshes : (fans : List FanEntry) → filter_map (refresh_of_row tables) (map row_of_fan fans) ≡ []
  no-refreshes [] = refl
  no-refreshes (job ∷ fans) = no-refreshes fans

  no-fans : (jobs : List RefreshEntry) → filter_map fan_of_row (map (λ job. refresh_row job.number (title_of job.page)) jobs) ≡ []
  no-fans [] = refl
  no-fans (job ∷ jobs) = no-fans jobs

  fans-read : (fans : List FanEntry) → AllByRecursion (λ job. job.cursor < 2 ^ 64) fans → filter_map fan_of_row (map row_of_fan fans) ≡ fans
  fans-read [] small = refl
  fans-read (job ∷ fans) small = rw (fan_params-params_text (record { reach = job.reach; cursor = job.cursor }) small.0, fans-read fans small.1) refl

  map-ids : (lists : JobLists) → map (λ (row : JobColumns). row.job_id) (map (λ job. refresh_row job.number (title_of job.page)) lists.refreshes ++ map row_of_fan lists.fans)
      ≡ map (λ job. job.number) lists.refreshes ++ map (λ job. job.number) lists.fans
  map-ids lists = map-append (λ (row : JobColumns). row.job_id) (map (λ job. refresh_row job.number (title_of job.page)) lists.refreshes) (map row_of_fan lists.fans)
      ∙ rw (of_refreshes lists.refreshes, of_fans lists.fans) refl
    where
      of_refreshes : (jobs : List RefreshEntry) → map (λ (row : JobColumns). row.job_id) (map (λ job. refresh_row job.number (title_of job.page)) jobs) ≡ map (λ job. job.number) jobs
      of_refreshes [] = refl
      of_refreshes (job ∷ jobs) = ap (λ ns. job.number ∷ ns) (of_refreshes jobs)

      of_fans : (jobs : List FanEntry) → map (λ (row : JobColumns). row.job_id) (map row_of_fan jobs) ≡ map (λ job. job.number) jobs
      of_fans [] = refl
      of_fans (job ∷ jobs) = ap (λ ns. job.number ∷ ns) (of_fans jobs)

  -- the rows of the jobs stand for the jobs, as a restart has them
  pub jobs_of_tables-rows : (lists : JobLists) → CanStand tables title_of lists → IsInOrder lists → jobs_of_tables (record tables { jobs = rows_of_jobs title_of lists }) ≡ reopened_jobs lists
  jobs_of_tables-rows lists can order =
      let of_refreshes = map (λ (job : RefreshEntry). refresh_row job.number (title_of job.page)) lists.refreshes in
      let of_fans = map row_of_fan lists.fans in
      let only_refreshes : filter_map (refresh_of_row tables) (of_refreshes ++ of_fans) ≡ map queued_again lists.refreshes =
      filter_map-append (refresh_of_row tables) of_refreshes of_fans ∙ rw (refreshes-read lists.refreshes can.found, no-refreshes lists.fans, append-nil) refl in
      let only_fans : filter_map fan_of_row (of_refreshes ++ of_fans) ≡ lists.fans =
      filter_map-append fan_of_row of_refreshes of_fans ∙ rw (no-fans lists.refreshes, fans-read lists.fans can.small) refl in
      let refreshes : filter_map (refresh_of_row tables) (by_number (λ (row : JobColumns). row.job_id) (of_refreshes ++ of_fans)) ≡ map queued_again (by_number (λ job. job.number) lists.refreshes) =
      filter_map-by_number (λ (row : JobColumns). row.job_id) (λ (job : RefreshEntry). job.number) (refresh_of_row tables) (refresh-keeps tables) (of_refreshes ++ of_fans)
      ∙ (ap (by_number (λ (job : RefreshEntry). job.number)) only_refreshes ∙ by_number-map queued_again (λ (job : RefreshEntry). job.number) (λ (job : RefreshEntry). job.number) (λ job. refl) lists.refreshes) in
      let fans : filter_map fan_of_row (by_number (λ (row : JobColumns). row.job_id) (of_refreshes ++ of_fans)) ≡ lists.fans =
      filter_map-by_number (λ (row : JobColumns). row.job_id) (λ (job : FanEntry). job.number) fan_of_row fan-keeps (of_refreshes ++ of_fans)
      ∙ (ap (by_number (λ (job : FanEntry). job.number)) only_fans ∙ by_number-rising (λ (job : FanEntry). job.number) lists.fans order) in
      let next : next_above (map (λ (row : JobColumns). row.job_id) (by_number (λ (row : JobColumns). row.job_id) (of_refreshes ++ of_fans))) ≡ next_above (map (λ job. job.number) lists.refreshes ++ map (λ job. job.number) lists.fans) =
      next_above-by_number (λ (row : JobColumns). row.job_id) (of_refreshes ++ of_fans) ∙ ap next_above (map-ids lists) in
      λ i. record { refreshes = refreshes i; fans = fans i; next = next i }
