-- What a report does over the store of a keeper (own).
use Rattle.std.specs.Prelude.{◌≡◌, ◌≤◌, ℕ, Bool, true, List, Option, None, Some, Result, Ok, Err, IfSome}
use Rattle.wk_base.specs.Faults.{Rose}
use Rattle.wk_page_rules.specs.Verdict.{full_limits}
use Rattle.wk_table_rules.specs.GoodStore.{first_broken}
use Rattle.wk_table_rules.specs.Rows.{StoreTables}
use Rattle.wk_wiki_rules.specs.Lives.{opened}
use Rattle.wk_wiki_rules.specs.States.{world_of}
use Rattle.wk_core.specs.Loads.{HasOpened, bad_store_of}
use Rattle.wk_core.specs.Seen.{IsTold, WikiSeen}
use Rattle.wk_core.specs.Steps.{KeeperGoesOn}
use Rattle.wk_core.specs.declared.outcomes.LoadCause.{LoadCause}
use Rattle.wk_core.specs.declared.outcomes.LoadCause.TheVariants as cause
use Rattle.wk_report_rules.specs.declared.Report.{Report}
use Rattle.wk_report_rules.specs.Pages.{stored_pages}
use Rattle.wk_report_rules.specs.Reports.{report_lines}
use Rattle.wk_report_rules.specs.Texts.{report_text}
use Rattle.wk_reports.specs.Written.{HasWritten}
use Rattle.wk_reports.specs.declared.written.ReportEnd.{ReportEnd}
use Rattle.wk_reports.specs.declared.written.ReportEnd.TheVariants as report

-- A wiki was opened over the keeper's tables, and the report of its state was written. The keeper has the tables of that state, tells
-- them where it did, and has failed as often as before.
pub record IsReportOf {K : Type 0} (told : K → Option StoreTables) (faults : K → ℕ) (is_whole : K → Bool) (which : Report) (most : ℕ) (keeper left : K) (before after : Option (List ℕ)) (end : ReportEnd) : Type 0 where
  pub wiki : WikiSeen K
  pub opened_is : HasOpened wiki full_limits
  pub state : IfSome (told keeper) (λ tables. (first_broken tables ≡ None) × (wiki.state ≡ opened tables))
  pub written : HasWritten end (report_text (report_lines which (world_of wiki.state) (stored_pages wiki.state) most)) before after
  pub tables : IsTold told wiki.state left
  pub keeper_goes_on : KeeperGoesOn told faults is_whole keeper left

-- The store wasn't opened, for this cause: nothing was written, and the keeper has its tables.
pub record IsUnopened {K : Type 0} (told : K → Option StoreTables) (faults : K → ℕ) (is_whole : K → Bool) (keeper left : K) (before after : Option (List ℕ)) (why : LoadCause) : Type 0 where
  pub nothing_written : after ≡ before
  pub tables : told left ≡ told keeper
  pub broken : IfSome (bad_store_of why) (λ row. IfSome (told keeper) (λ tables. first_broken tables ≡ Some row))
  pub fault : why ≡ cause.StoreFault → Rose (faults keeper) (faults left)
  pub never_falls : faults keeper ≤ faults left
  pub whole : is_whole keeper ≡ true → faults left ≡ faults keeper
  pub stays_whole : is_whole left ≡ is_whole keeper

abbrev pub IsReportedOver : {K : Type 0} → (K → Option StoreTables) → (K → ℕ) → (K → Bool) → Report → ℕ → K → K → Option (List ℕ) → Option (List ℕ) → Result ReportEnd LoadCause → Type 0
IsReportedOver told faults is_whole which most keeper left before after (Ok end) = IsReportOf told faults is_whole which most keeper left before after end
IsReportedOver told faults is_whole which most keeper left before after (Err why) = IsUnopened told faults is_whole keeper left before after why

-- the status with which the program ends
abbrev pub status_of_report : Result ReportEnd LoadCause → ℕ
status_of_report (Ok report.Done) = 0
status_of_report (Ok report.Memory) = 1
status_of_report (Ok report.WriteFault) = 4
status_of_report (Err cause.Memory) = 1
status_of_report (Err cause.StoreFault) = 5
status_of_report (Err (cause.BadStore bad)) = 7
