-- A wiki that goes on over lines of a script (own).
use Rattle.std.specs.Prelude.{◌≡◌, ℕ, ◌≤◌, true, Option, None, is_some}
use Rattle.wk_table_rules.specs.Rows.{StoreTables}
use Rattle.wk_core.specs.Seen.{WikiSeen}

-- The wiki goes on: its limits are as they were, it isn't sealed where it wasn't, and its keeper goes on.
pub record GoesOnOver {K : Type 0} (told : K → Option StoreTables) (faults : K → ℕ) (old new : WikiSeen K) : Type 0 where
  pub limits : new.start.limits ≡ old.start.limits
  pub unsealed : old.start.sealed ≡ None → new.start.sealed ≡ None
  pub stays_whole : new.start.whole ≡ old.start.whole
  pub tells : is_some (told new.keeper) ≡ is_some (told old.keeper)
  pub never_falls : faults old.keeper ≤ faults new.keeper
  pub whole : old.start.whole ≡ true → faults new.keeper ≡ faults old.keeper
