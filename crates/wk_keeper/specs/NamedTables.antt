-- Tables that a vault has under names (own).
use Rattle.std.specs.Prelude.{ℕ, List, find, bytes_eq, None, Some}
use Rattle.wk_table_rules.specs.Rows.{StoreTables, no_tables}

-- a store's name and its tables
pub record NamedTables : Type 0 where
  pub name : List ℕ
  pub tables : StoreTables

-- the tables of the first store of this name, or empty ones
abbrev pub tables_named : List NamedTables → List ℕ → StoreTables
tables_named stores name = elim (find (λ store. bytes_eq store.name name) stores) [
  | None ↦ no_tables
  | Some store ↦ store.tables
]
