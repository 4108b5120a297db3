-- What the commands `check`, `jobs`, `gen` and `serve` have done by their end (own).
use Rattle.std.specs.Prelude.{◌≡◌, ℕ, Bool, List, [], Some, Result, Option}
use Rattle.wk_base.specs.Faults.{Rose}
use Rattle.wk_table_rules.specs.Rows.{StoreTables}
use Rattle.wk_commands.specs.Worked.{IsServedOn, IsWorkedOn}
use Rattle.wk_commands.specs.declared.ends.CommandEnd.{CommandEnd}
use Rattle.wk_commands.specs.declared.works.Work.{Work}
use Rattle.wk_core.specs.declared.outcomes.LoadCause.{LoadCause}
use Rattle.wk_script_runs.specs.Outside.{Outside}
use Rattle.wk_door.specs.Told.{DoorTold}
use Rattle.wk_cli.specs.Scripted.{HasNoStore, IsOpened, VaultStore}
use Rattle.wk_cli.specs.Statuses.{bad_of_work, status_of_work}
use Rattle.wk_cli.specs.declared.ends.Finish.{Finish}

-- What was asked was done over the store of a keeper, which is handed back, or its wiki wasn't opened. Nothing was read.
pub record IsWorkedOver {K : Type 0} (told : K → Option StoreTables) (faults : K → ℕ) (is_whole : K → Bool) (work : Work) (journal : ℕ) (keeper : K)
    (before after : Outside) (finish : Finish K) : Type 0 where
  pub left : K
  pub end : Result CommandEnd LoadCause
  pub worked : IsWorkedOn told faults is_whole work journal keeper left before.moments after.moments before.taken after.taken end
  pub nothing_read : after.rest ≡ before.rest
  pub status_is : finish.status ≡ status_of_work end
  pub bad_is : finish.bad ≡ bad_of_work end
  pub no_point : finish.points.items ≡ []
  pub store_is : finish.store ≡ Some left

-- The vault opened no store, for want of memory, or at status 5 since its count of faults rose; or it opened one, over which
-- the work was done.
pub data IsWorkedAt {K : Type 0} (told : K → Option StoreTables) (faults : K → ℕ) (is_whole : K → Bool) (work : Work) (journal : ℕ) (kept : VaultStore) (opens later : ℕ)
    (before after : Outside) (finish : Finish K) : Type 0 where
  no_memory : finish.status ≡ 1 → HasNoStore before after finish → IsWorkedAt told faults is_whole work journal kept opens later before after finish
  not_opened : finish.status ≡ 5 → Rose opens later → HasNoStore before after finish → IsWorkedAt told faults is_whole work journal kept opens later before after finish
  over_a_store : (keeper : K) → IsOpened told faults is_whole kept keeper → later ≡ opens → IsWorkedOver told faults is_whole work journal keeper before after finish →
      IsWorkedAt told faults is_whole work journal kept opens later before after finish

-- ---- serving

-- what a door tells, and its count of faults
pub record DoorSeen (L : Type 0) : Type 0 where
  pub told : Option (DoorTold L)
  pub faults : ℕ

-- A wiki over the store of a keeper, which is handed back, was served at an address, or it wasn't opened. Nothing was read of the input.
pub record IsServedBy {K L : Type 0} (told : K → Option StoreTables) (faults : K → ℕ) (is_whole : K → Bool) (feed : Bool) (address : List ℕ) (most journal : ℕ) (keeper : K)
    (door later : DoorSeen L) (before after : Outside) (finish : Finish K) : Type 0 where
  pub left : K
  pub end : Result CommandEnd LoadCause
  pub served : IsServedOn told faults is_whole feed address most journal keeper left door.told later.told door.faults later.faults before.taken after.taken end
  pub nothing_read : after.rest ≡ before.rest
  pub status_is : finish.status ≡ status_of_work end
  pub bad_is : finish.bad ≡ bad_of_work end
  pub no_point : finish.points.items ≡ []
  pub store_is : finish.store ≡ Some left

-- The vault opened no store, for want of memory, or at status 5 since its count of faults rose, and nothing was asked of the door; or it
-- opened one, over which a wiki was served.
pub data IsServedAt {K L : Type 0} (told : K → Option StoreTables) (faults : K → ℕ) (is_whole : K → Bool) (feed : Bool) (address : List ℕ) (most journal : ℕ) (kept : VaultStore) (opens later : ℕ)
    (door door_later : DoorSeen L) (before after : Outside) (finish : Finish K) : Type 0 where
  no_memory_to_open : finish.status ≡ 1 → HasNoStore before after finish → door_later ≡ door → IsServedAt told faults is_whole feed address most journal kept opens later door door_later before after finish
  unopened : finish.status ≡ 5 → Rose opens later → HasNoStore before after finish → door_later ≡ door → IsServedAt told faults is_whole feed address most journal kept opens later door door_later before after finish
  over_the_store : (keeper : K) → IsOpened told faults is_whole kept keeper → later ≡ opens → IsServedBy told faults is_whole feed address most journal keeper door door_later before after finish →
      IsServedAt told faults is_whole feed address most journal kept opens later door door_later before after finish
