-- A wiki that was opened for a report, and the keeper that is left of it.
use Rattle.std.proofs.Common.{◌≡◌, ℕ, Bool, Result, Ok, Err, ap, ◌∙◌, arith}
use Rattle.std.specs.Prelude.{is_some, Option}
use Rattle.wk_table_rules.specs.Rows.{StoreTables}
use Rattle.wk_core.specs.Steps.{KeeperGoesOn}
use Rattle.wk_core.specs.declared.outcomes.LoadCause.{LoadCause}
use Rattle.wk_reports.specs.declared.written.ReportEnd.{ReportEnd}

-- the keeper that is left is the one that the wiki held
pub reported-on : {K : Type 0} (told : K → Option StoreTables) (faults : K → ℕ) (is_whole : K → Bool) (keeper held left : K) → left ≡ held → is_some (told held) ≡ is_some (told keeper) → faults held ≡ faults keeper → is_whole held ≡ is_whole keeper
    → KeeperGoesOn told faults is_whole keeper left
reported-on told faults is_whole keeper held left is tells count whole =
    let same : faults left ≡ faults keeper = ap faults is ∙ count in record {
      tells = ap (λ k. is_some (told k)) is ∙ tells;
      never_falls = omega (arith, same);
      whole = λ _. same;
      stays_whole = ap is_whole is ∙ whole;
    }

pub ends-same : (a b : ReportEnd) → ◌≡◌ {A = Result ReportEnd LoadCause} (Ok a) (Ok b) → a ≡ b
ends-same a b is = cc

pub not-ended : (why : LoadCause) (b : ReportEnd) → ◌≡◌ {A = Result ReportEnd LoadCause} (Err why) (Ok b) → ⊥
not-ended why b is = cc
