-- No value of a line has a fraction.
use Rattle.std.proofs.Common.{◌≡◌, ℤ, pos, negsuc, false, List, [], ◌∷◌, map, refl}
use Rattle.serde_json.specs.Data.{number}
use Rattle.serde_json.specs.Find.{of_integer}
use Rattle.serde_json.specs.Written.{has_float, items_have_float}
use Rattle.wk_answer_rules.specs.Values.{array_of, items_of}
use Rattle.wk_feeder.specs.Cells.{data_of}
use Rattle.wk_feeder.specs.declared.lines.Cell.{Cell}
use Rattle.wk_feeder.specs.declared.lines.Cell.TheVariants.{Text, Whole, Integer, Null}

of-sign : (n : ℤ) → has_float (number (of_integer n)) ≡ false
of-sign (pos n) = refl
of-sign (negsuc n) = refl

items : (cells : List Cell) → items_have_float (items_of (map data_of cells)) ≡ false
items [] = refl
items (Text text ∷ cells) = items cells
items (Whole n ∷ cells) = items cells
items (Integer n ∷ cells) = rw (of-sign n) (items cells)
items (Null ∷ cells) = items cells

pub no_floats : (cells : List Cell) → has_float (array_of (map data_of cells)) ≡ false
no_floats cells = items cells
