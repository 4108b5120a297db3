-- What a call of a wiki leaves: one event more or none, and a keeper that goes on as it did (own).
use Rattle.std.specs.Prelude.{◌≡◌, ℕ, ◌≤◌, Bool, true, [], ◌∷◌, ◌++◌, length, Option, Some, None, is_some}
use Rattle.wk_table_rules.specs.Rows.{StoreTables}
use Rattle.wk_wiki_rules.specs.Events.{Event, step}
use Rattle.wk_core.specs.Seen.{WikiSeen}

-- One event was made: the wiki began as before, its journal is longer by the event, and its state is the one behind it.
pub record HasMade {K : Type 0} (old new : WikiSeen K) (event : Event) : Type 0 where
  pub start : new.start ≡ old.start
  pub journal : new.journal ≡ old.journal ++ event ∷ []
  pub stepped : step old.state (length old.journal) event ≡ Some new.state

-- Nothing happened: all is as before, the tables that the keeper tells among it.
pub record HasMadeNothing {K : Type 0} (told : K → Option StoreTables) (old new : WikiSeen K) : Type 0 where
  pub wiki : new ≡ record old { keeper = new.keeper }
  pub tables : told new.keeper ≡ told old.keeper

-- this event was made, or nothing happened where there is none
abbrev pub HasMadeAtMost : {K : Type 0} → (K → Option StoreTables) → WikiSeen K → WikiSeen K → Option Event → Type 0
HasMadeAtMost told old new None = HasMadeNothing told old new
HasMadeAtMost told old new (Some event) = HasMade old new event

-- The keeper tells its tables where it did, its count of faults doesn't fall, and the count of a whole one doesn't rise.
pub record GoesOn {K : Type 0} (told : K → Option StoreTables) (faults : K → ℕ) (old new : WikiSeen K) : Type 0 where
  pub tells : is_some (told new.keeper) ≡ is_some (told old.keeper)
  pub never_falls : faults old.keeper ≤ faults new.keeper
  pub whole : old.start.whole ≡ true → faults new.keeper ≡ faults old.keeper

-- the same of the keeper alone, which besides stays whole where it is
pub record KeeperGoesOn {K : Type 0} (told : K → Option StoreTables) (faults : K → ℕ) (is_whole : K → Bool) (old new : K) : Type 0 where
  pub tells : is_some (told new) ≡ is_some (told old)
  pub never_falls : faults old ≤ faults new
  pub whole : is_whole old ≡ true → faults new ≡ faults old
  pub stays_whole : is_whole new ≡ is_whole old
