-- How the command `script` ended (own).
use Rattle.std.specs.Prelude.{◌≡◌, ◌≤◌, ℕ, Bool, true, [], Option, Some, None, Result, IfSome, is_some}
use Rattle.wk_base.specs.Faults.{Rose}
use Rattle.wk_table_rules.specs.GoodStore.{first_broken}
use Rattle.wk_table_rules.specs.Rows.{StoreTables}
use Rattle.wk_wiki_rules.specs.Lives.{opened}
use Rattle.wk_core.specs.Loads.{HasOpened, bad_store_of}
use Rattle.wk_core.specs.Seen.{WikiSeen}
use Rattle.wk_core.specs.declared.outcomes.LoadCause.{LoadCause}
use Rattle.wk_core.specs.declared.outcomes.LoadCause.TheVariants as cause
use Rattle.wk_commands.specs.Worked.{limits_with_journal}
use Rattle.wk_script_runs.specs.Ends.{keeper_left}
use Rattle.wk_script_runs.specs.Outside.{Outside}
use Rattle.wk_script.specs.Report.{IsHandedAt, IsRunTo, bad_of}
use Rattle.wk_script.specs.declared.script.ScriptEnd.{ScriptEnd}
use Rattle.wk_cli.specs.Statuses.{status_of_cause, status_of_end}
use Rattle.wk_cli.specs.declared.ends.Finish.{Finish}

-- nothing was read, no moment taken and nothing written
pub record IsUntouched {K : Type 0} (before after : Outside) (finish : Finish K) : Type 0 where
  pub same : after ≡ before
  pub nothing : finish.points.items ≡ []

-- the store wasn't opened: nothing was handed back
pub record HasNoStore {K : Type 0} (before after : Outside) (finish : Finish K) : Type 0 where
  pub untouched : IsUntouched before after finish
  pub not_bad : finish.bad ≡ None
  pub no_store : finish.store ≡ None

-- The wiki of a keeper wasn't opened, for this cause: nothing was read, and the keeper is handed back with its tables.
pub record IsNotLoaded {K : Type 0} (told : K → Option StoreTables) (faults : K → ℕ) (is_whole : K → Bool) (keeper : K) (before after : Outside)
    (finish : Finish K) : Type 0 where
  pub why : LoadCause
  pub left : K
  pub untouched : IsUntouched before after finish
  pub status_is : finish.status ≡ status_of_cause why
  pub bad_is : finish.bad ≡ bad_store_of why
  pub broken : IfSome (bad_store_of why) (λ row. IfSome (told keeper) (λ tables. first_broken tables ≡ Some row))
  pub store_is : finish.store ≡ Some left
  pub tables : told left ≡ told keeper
  pub fault : why ≡ cause.StoreFault → Rose (faults keeper) (faults left)
  pub never_falls : faults keeper ≤ faults left
  pub whole : is_whole keeper ≡ true → faults left ≡ faults keeper

-- The wiki of a keeper was opened, by the tables that the keeper tells, and the script ran over it.
pub record IsRun {K : Type 0} (told : K → Option StoreTables) (faults : K → ℕ) (is_whole : K → Bool) (journal : ℕ) (keeper : K) (before after : Outside)
    (finish : Finish K) : Type 0 where
  pub wiki : WikiSeen K
  pub opened_is : HasOpened wiki (limits_with_journal journal)
  pub state : IfSome (told keeper) (λ tables. (first_broken tables ≡ None) × (wiki.state ≡ opened tables))
  pub tells : is_some (told wiki.keeper) ≡ is_some (told keeper)
  pub whole : wiki.start.whole ≡ is_whole keeper
  pub no_fault : faults wiki.keeper ≡ faults keeper
  pub how : ScriptEnd
  pub handed : Result (WikiSeen K) K
  pub run : IsRunTo told faults wiki before after how finish.points.items handed
  pub handed_at : IsHandedAt how handed
  pub not_bad : is_some (told keeper) ≡ true → bad_of how ≡ None
  pub status_is : finish.status ≡ status_of_end how
  pub bad_is : finish.bad ≡ bad_of how
  pub store_is : finish.store ≡ Some (keeper_left handed)

pub data IsOver {K : Type 0} (told : K → Option StoreTables) (faults : K → ℕ) (is_whole : K → Bool) (journal : ℕ) (keeper : K) (before after : Outside)
    (finish : Finish K) : Type 0 where
  not_loaded : IsNotLoaded told faults is_whole keeper before after finish → IsOver told faults is_whole journal keeper before after finish
  ran : IsRun told faults is_whole journal keeper before after finish → IsOver told faults is_whole journal keeper before after finish

-- What a vault has under a name: the tables that it tells, and whether the store is whole.
pub record VaultStore : Type 0 where
  pub tables : Option StoreTables
  pub whole : Bool

-- the store that was opened is that which the vault has
pub record IsOpened {K : Type 0} (told : K → Option StoreTables) (faults : K → ℕ) (is_whole : K → Bool) (kept : VaultStore) (keeper : K) : Type 0 where
  pub tables : IfSome kept.tables (λ tables. told keeper ≡ Some tables)
  pub whole : kept.whole ≡ true → is_whole keeper ≡ true
  pub no_fault : faults keeper ≡ 0

-- The vault opened no store, for want of memory, or at status 5 since its count of faults rose; or it opened one, over which
-- the script ran.
pub data IsScripted {K : Type 0} (told : K → Option StoreTables) (faults : K → ℕ) (is_whole : K → Bool) (journal : ℕ) (kept : VaultStore) (opens later : ℕ)
    (before after : Outside) (finish : Finish K) : Type 0 where
  no_memory : finish.status ≡ 1 → HasNoStore before after finish → IsScripted told faults is_whole journal kept opens later before after finish
  not_opened : finish.status ≡ 5 → Rose opens later → HasNoStore before after finish → IsScripted told faults is_whole journal kept opens later before after finish
  over_a_store : (keeper : K) → IsOpened told faults is_whole kept keeper → later ≡ opens → IsOver told faults is_whole journal keeper before after finish →
      IsScripted told faults is_whole journal kept opens later before after finish
