-- The values of a line that are left to be read.
use Rattle.std.specs.Prelude.{◌≡◌, Bool, false, List, [], ◌∷◌, map, Option, Some, None, if◌then◌else◌}
use Rattle.serde_json.specs.Data.{Data}
use Rattle.serde_json.specs.View.{view}
use Rattle.wk_feed_rules.specs.Lines.{FeedLine}
use Rattle.wk_feed_lines.specs.declared.cells.Cells.{Cells}

-- whether each value so far was of its kind, and the values that are left
pub record CellsLeft : Type 0 where
  pub is_fit : Bool
  pub values : List Data

abbrev pub left_of : Cells → CellsLeft
left_of cells = record { is_fit = cells.is_fit; values = map view cells.values.now }

-- what the line says by what is read of the values that are left; nothing where one so far wasn't of its kind
abbrev pub read_on : (List Data → Option FeedLine) → CellsLeft → Option FeedLine
read_on reading left = if left.is_fit then reading left.values else None

-- the next value was taken, where one was left
abbrev pub TakesNext : CellsLeft → CellsLeft → Option Data → Type 0
TakesNext old new None = (old.values ≡ []) × (new.is_fit ≡ false)
TakesNext old new (Some value) = (old.values ≡ value ∷ new.values) × (new.is_fit ≡ old.is_fit)
