-- What the command `report` has done by its end (own).
use Rattle.std.specs.Prelude.{◌≡◌, ℕ, Bool, [], Option, None, Some, Result, Ok, Err}
use Rattle.wk_base.specs.Faults.{Rose}
use Rattle.wk_table_rules.specs.Rows.{StoreTables}
use Rattle.wk_table_rules.specs.declared.BadStore.{BadStore}
use Rattle.wk_core.specs.Loads.{bad_store_of}
use Rattle.wk_core.specs.declared.outcomes.LoadCause.{LoadCause}
use Rattle.wk_report_rules.specs.declared.Report.{Report}
use Rattle.wk_reports.specs.Over.{IsReportedOver, status_of_report}
use Rattle.wk_reports.specs.declared.written.ReportEnd.{ReportEnd}
use Rattle.wk_script_runs.specs.Outside.{Outside}
use Rattle.wk_cli.specs.Scripted.{HasNoStore, IsOpened, VaultStore}
use Rattle.wk_cli.specs.declared.ends.Finish.{Finish}

-- the bad row, where that is the end
abbrev pub bad_of_report : Result ReportEnd LoadCause → Option BadStore
bad_of_report (Ok end) = None
bad_of_report (Err why) = bad_store_of why

-- The report was written over the store of a keeper, which is handed back, or its wiki wasn't opened. Nothing was read, and no moment
-- taken.
pub record IsReportedBy {K : Type 0} (told : K → Option StoreTables) (faults : K → ℕ) (is_whole : K → Bool) (which : Report) (most : ℕ) (keeper : K)
    (before after : Outside) (finish : Finish K) : Type 0 where
  pub left : K
  pub end : Result ReportEnd LoadCause
  pub reported : IsReportedOver told faults is_whole which most keeper left before.taken after.taken end
  pub nothing_read : after.rest ≡ before.rest
  pub no_moment : after.moments ≡ before.moments
  pub status_is : finish.status ≡ status_of_report end
  pub bad_is : finish.bad ≡ bad_of_report end
  pub no_point : finish.points.items ≡ []
  pub store_is : finish.store ≡ Some left

-- The vault opened no store, for want of memory, or at status 5 since its count of faults rose; or it opened one, over which
-- the report was written.
pub data IsReportedAt {K : Type 0} (told : K → Option StoreTables) (faults : K → ℕ) (is_whole : K → Bool) (which : Report) (most : ℕ) (kept : VaultStore) (opens later : ℕ)
    (before after : Outside) (finish : Finish K) : Type 0 where
  no_memory : finish.status ≡ 1 → HasNoStore before after finish → IsReportedAt told faults is_whole which most kept opens later before after finish
  not_opened : finish.status ≡ 5 → Rose opens later → HasNoStore before after finish → IsReportedAt told faults is_whole which most kept opens later before after finish
  over_a_store : (keeper : K) → IsOpened told faults is_whole kept keeper → later ≡ opens → IsReportedBy told faults is_whole which most keeper before after finish →
      IsReportedAt told faults is_whole which most kept opens later before after finish
