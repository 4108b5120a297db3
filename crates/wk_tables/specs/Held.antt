-- What `Tables` stands for.
use Rattle.std.specs.Prelude.{ℕ}
use Rattle.wk_table_rules.specs.Rows.{StoreTables}

-- the tables, and how much room there is for changes of them
pub record Held : Type 0 where
  pub tables : StoreTables
  pub spare : ℕ
