-- What a table of rows of pages stands for.
use Rattle.std.specs.Prelude.{ℕ, List, Option}

-- its rows, the pages in whose order they are kept, where they are kept by page, and for how many rows or pages more
-- there is room
pub record TableHeld (Row : Type 0) : Type 0 where
  pub rows : List Row
  pub pages : Option (List ℕ)
  pub spare : ℕ
