-- How a command ends where nothing outside the program fails (own).
use Rattle.std.specs.Prelude.{◌≡◌, ◌==◌, ℕ, true, List, [], ◌∷◌, None, Some, IfSome}
use Rattle.std.specs.List.{list_any}
use Rattle.wk_base.specs.Faults.{Rose}
use Rattle.wk_table_rules.specs.GoodStore.{first_broken}
use Rattle.wk_table_rules.specs.Rows.{StoreTables}
use Rattle.wk_words.specs.declared.commands.Command.{Command}
use Rattle.wk_words.specs.declared.commands.Command.TheVariants.{Script, Serve, Jobs, Check, Generate, Report, Replica}
use Rattle.wk_cli.specs.Scripted.{VaultStore}
use Rattle.wk_cli.specs.Works.{DoorSeen}
use Rattle.wk_cli.specs.declared.ends.Finish.{Finish}

-- the statuses at which a command ends then
abbrev pub ends_without_fault : Command → List ℕ
ends_without_fault Script = 0 ∷ 1 ∷ 9 ∷ []
ends_without_fault Serve = 0 ∷ 1 ∷ []
ends_without_fault Jobs = 0 ∷ 1 ∷ 10 ∷ []
ends_without_fault Check = 0 ∷ 1 ∷ 8 ∷ []
ends_without_fault Generate = 0 ∷ 1 ∷ 8 ∷ 10 ∷ []
ends_without_fault Report = 0 ∷ 1 ∷ []
ends_without_fault Replica = 0 ∷ 1 ∷ 9 ∷ 11 ∷ []

-- the command ended at one of them
abbrev pub EndsWithoutFault : Command → ℕ → Type 0
EndsWithoutFault command status = list_any (λ s. status == s) (ends_without_fault command) ≡ true

-- Nothing outside the program failed but for the store: neither the vault's count of faults rose, nor the input's, the output's or the
-- door's. The tables that the vault tells of the store break no rule.
pub record HasNoFaultOutside {L : Type 0} (kept : VaultStore) (opens later reads reads_later writes writes_later : ℕ) (door door_later : DoorSeen L) : Type 0 where
  pub tables : StoreTables
  pub told_is : kept.tables ≡ Some tables
  pub good : first_broken tables ≡ None
  pub no_open_fault : Rose opens later → ⊥
  pub no_read_fault : Rose reads reads_later → ⊥
  pub no_write_fault : Rose writes writes_later → ⊥
  pub no_door_fault : Rose door.faults door_later.faults → ⊥

-- The store didn't fail either: the count of faults of the one that is handed back, if one is, stands at 0.
pub record HasNoFault {K L : Type 0} (faults : K → ℕ) (kept : VaultStore) (opens later reads reads_later writes writes_later : ℕ) (door door_later : DoorSeen L) (finish : Finish K) : Type 0 where
  pub outside : HasNoFaultOutside kept opens later reads reads_later writes writes_later door door_later
  pub no_store_fault : IfSome finish.store (λ left. faults left ≡ 0)
