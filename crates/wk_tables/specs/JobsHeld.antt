-- What a list of jobs stands for.
use Rattle.std.specs.Prelude.{ℕ, List}
use Rattle.wk_table_rules.specs.Rows.{JobColumns}

-- the rows, how many places are empty, and for how many more rows there is room
pub record JobsHeld : Type 0 where
  pub rows : List JobColumns
  pub empty : ℕ
  pub spare : ℕ
