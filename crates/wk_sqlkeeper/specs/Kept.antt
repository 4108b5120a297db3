-- What is read of the tables that a database keeps.
use Rattle.std.specs.Prelude.{◌≡◌, ◌<◌, ◌^◌, ◌⊎◌, List}
use Rattle.std.specs.List.{AllByRecursion}
use Rattle.sqlite.specs.State.{State, IsRolledBack, IsUnchanged}
use Rattle.wk_table_rules.specs.Rows.{StoreTables}
use Rattle.wk_sqltables.specs.Edits.{Keeps}

-- moments and the version are numbers of 64 bits, as in all tables that the engine makes
pub record IsInRange (tables : StoreTables) : Type 0 where
  pub moments : AllByRecursion (λ revision. revision.rev_timestamp < 2 ^ 64) tables.revisions
  pub version : tables.version < 2 ^ 64

-- whatever tables the database kept before, it keeps
abbrev pub StillKeeps : State → State → Type 0
StillKeeps old new = (tables : StoreTables) → Keeps old tables → Keeps new tables

-- nothing is written: all is as before, or what a transaction wrote is undone
abbrev pub Rests : State → State → Type 0
Rests old new = IsUnchanged old new ⊎ IsRolledBack old new

-- this is the list of whatever tables the database kept before
abbrev pub IsListOf : {R : Type 0} → (StoreTables → List R) → State → List R → Type 0
IsListOf list_of old rows = (tables : StoreTables) → Keeps old tables → IsInRange tables → rows ≡ list_of tables
