-- What comes of a restart (own).
use Rattle.std.specs.Prelude.{◌≡◌, ℕ, ◌≤◌, true, [], List, Option, None, IfSome, is_some}
use Rattle.wk_base.specs.Faults.{Rose}
use Rattle.wk_table_rules.specs.Rows.{StoreTables}
use Rattle.wk_wiki_rules.specs.Tables.{tables_of}
use Rattle.wk_core.specs.Loads.{bad_store_of}
use Rattle.wk_core.specs.Seen.{WikiSeen}
use Rattle.wk_core.specs.declared.outcomes.LoadCause.{LoadCause}
use Rattle.wk_core.specs.declared.outcomes.LoadCause.TheVariants as cause
use Rattle.wk_script_rules.specs.WikiScripts.{TicketDraft, all_given_back, restarted, script_from}
use Rattle.wk_script_steps.specs.Seen.{script_of}
use Rattle.wk_script_steps.specs.Going.{GoesOnOver}

-- The wiki begins anew: where its keeper tells its tables, as the rules have it, and else with some state. The keeper goes
-- on, and counted no fault.
pub record Reopens {K : Type 0} (told : K → Option StoreTables) (faults : K → ℕ) (old : WikiSeen K) (drafts : List TicketDraft) (new : WikiSeen K) : Type 0 where
  pub begun : script_of new [] ≡ script_from new.state
  pub told_state : is_some (told old.keeper) ≡ true → script_of new [] ≡ restarted (script_of old drafts)
  pub goes : GoesOnOver told faults old new
  pub no_fault : faults new.keeper ≡ faults old.keeper

-- The store isn't opened anew, for this cause: the tickets have come in, and the keeper, which is handed back, tells the
-- tables of the last state where it tells them. Then they aren't bad.
pub record IsLost {K : Type 0} (told : K → Option StoreTables) (faults : K → ℕ) (old : WikiSeen K) (drafts : List TicketDraft) (why : LoadCause) (keeper : K) : Type 0 where
  pub tells : is_some (told keeper) ≡ is_some (told old.keeper)
  pub tables : IfSome (told keeper) (λ tables. tables ≡ tables_of (all_given_back (script_of old drafts)).state)
  pub not_bad : is_some (told old.keeper) ≡ true → bad_store_of why ≡ None
  pub fault : why ≡ cause.StoreFault → Rose (faults old.keeper) (faults keeper)
  pub never_falls : faults old.keeper ≤ faults keeper
  pub whole : old.start.whole ≡ true → faults keeper ≡ faults old.keeper
