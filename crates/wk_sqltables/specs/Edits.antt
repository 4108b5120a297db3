-- What the edits of a change make of the tables that a store holds.
use Rattle.std.specs.Prelude.{◌≡◌, true, List, IsTrue}
use Rattle.std.specs.List.{AllByRecursion}
use Rattle.sqlite.specs.State.{State}
use Rattle.wk_table_rules.specs.Rows.{StoreTables}
use Rattle.wk_table_rules.specs.Changes.{TableEdit, set_rows, applied, fits}
use Rattle.wk_sqltables.specs.Held.{HoldTables, Holds}
use Rattle.wk_sqltables.specs.Rows.{AreRising}
use Rattle.wk_sqltables.specs.StoreSchema.{store_schema}

-- link rows that are set are in order
abbrev pub IsOrdered : TableEdit → Type 0
IsOrdered (set_rows page rows) = AreRising rows
IsOrdered _ = Unit {0}

abbrev pub AreOrdered : List TableEdit → Type 0
AreOrdered = AllByRecursion IsOrdered

-- whatever tables the store held before, where the change fits them it now holds what the change makes of them
abbrev pub MakesAll : State → State → List TableEdit → Type 0
MakesAll old new change = AreOrdered change → (tables : StoreTables) → Holds old tables → fits tables change ≡ true → Holds new (applied tables change)

-- between transactions a store that is open holds these tables
pub record Keeps (s : State) (tables : StoreTables) : Type 0 where
  pub is_open : IsTrue s.is_open
  pub settled : s.now ≡ s.committed
  pub schema : s.now.schema ≡ store_schema
  pub tables_are : HoldTables s.now.trees tables
