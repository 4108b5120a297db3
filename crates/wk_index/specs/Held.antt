-- What an index stands for.
use Rattle.std.specs.Prelude.{ℕ, List, unwrap_or}
use Rattle.wk_page_rules.specs.PageRows.{PageRows, no_rows}
use Rattle.wk_index.specs.Named.{rows_at}

-- the rows of each page, in the order of the pages, and for how many pages more there is room
pub record Held : Type 0 where
  pub stored : List PageRows
  pub spare : ℕ

-- the rows of the page with this number, none where there is no such page
abbrev pub rows_of : List PageRows → ℕ → PageRows
rows_of stored page = unwrap_or (rows_at stored page) no_rows
