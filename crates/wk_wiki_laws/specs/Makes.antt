-- What a change makes of tables.
use Rattle.std.specs.Prelude.{◌≡◌, true, List}
use Rattle.wk_table_rules.specs.Rows.{StoreTables}
use Rattle.wk_table_rules.specs.Changes.{TableEdit, applied, fits}

-- the change fits the tables, and makes them these
pub record Makes (tables : StoreTables) (change : List TableEdit) (after : StoreTables) : Type 0 where
  pub fitting : fits tables change ≡ true
  pub result : applied tables change ≡ after
