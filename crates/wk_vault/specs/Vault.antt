-- The program's vault (own).
use Rattle.std.specs.Prelude.{ℕ, Bool, true, false, List, [], ◌∷◌, Option, Some, None}
use Rattle.wk_table_rules.specs.Rows.{StoreTables, no_tables}
use Rattle.wk_vault.specs.declared.cause.StoreCause.{StoreCause}
use Rattle.wk_vault.specs.declared.file_vault.FileVault.{FileVault}

-- how many of its calls have failed
abbrev pub vault_faults : FileVault → ℕ
vault_faults vault = vault.faults

-- why the last one failed, and none where it didn't
abbrev pub vault_cause : FileVault → Option StoreCause
vault_cause vault = vault.cause

-- the empty name is a store in memory
abbrev pub names_memory : List ℕ → Bool
names_memory [] = true
names_memory (b ∷ bytes) = false

-- which is empty; of a file nothing is told
abbrev pub opened_tables : List ℕ → Option StoreTables
opened_tables [] = Some no_tables
opened_tables (b ∷ bytes) = None

-- what it tells of the stores, which no call changes
abbrev pub vault_told : FileVault → List ℕ → Option StoreTables
vault_told vault = opened_tables

abbrev pub vault_opens_whole : FileVault → List ℕ → Bool
vault_opens_whole vault = names_memory

-- it doesn't tell how many calls were made
abbrev pub vault_calls : FileVault → Option ℕ
vault_calls vault = None
