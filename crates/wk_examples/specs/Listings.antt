-- Rows of pages in a category.
use Rattle.std.specs.Prelude.{ℕ, List, [], ◌∷◌, codes}
use Rattle.wk_page_rules.specs.PageRows.{PageRows, no_rows}
use Rattle.wk_examples.specs.Stores.{member}

-- a page that is in the category X with a sort key
abbrev pub in_x : List ℕ → PageRows
in_x sortkey = record no_rows { members = record (member (codes "X")) { sortkey = sortkey } ∷ [] }
