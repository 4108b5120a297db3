-- The line in an answer of a line cutter (own).
use Rattle.std.specs.Prelude.{ℕ, List, [], ◌∷◌, Option, Some, None}
use Rattle.wk_bytes.specs.declared.lines.Line.{Line}
use Rattle.wk_bytes.specs.declared.lines.Line.TheVariants.{Whole, TooLong, More}

-- the line that is given, with nothing in the place of one that is too long; no line where there is more to push
abbrev pub line_in : Line → List (Option (List ℕ))
line_in (Whole bytes) = Some bytes.items ∷ []
line_in TooLong = None ∷ []
line_in More = []
