-- The lines of a script (own; the cutting is that of Rust's `str::lines`).
use Rattle.std.specs.Prelude.{ℕ, ◌==◌, nat_lt, List, [], ◌∷◌, length, Option, Some, None, if◌then◌else◌}
use Rattle.std.specs.List.{slice_split}
use Rattle.std.specs.Str.Lines.{strip_carriage_return}

-- `line`, or nothing in the place of a line whose bytes before the newline, `part`, are more than `most`
abbrev pub within : ℕ → List ℕ → List ℕ → Option (List ℕ)
within most part line = if nat_lt most (length part) then None else Some line

-- The lines in the parts between newlines. A part before a newline is a line, without the one carriage return
-- at its end; the last part has no newline behind it and is a line, as it stands, unless it is empty.
abbrev pub lines_of_parts : ℕ → List (List ℕ) → List (Option (List ℕ))
lines_of_parts most [] = []
lines_of_parts most (part ∷ []) = if length part == 0 then [] else within most part part ∷ []
lines_of_parts most (part ∷ next ∷ parts) =
    within most part (strip_carriage_return part) ∷ lines_of_parts most (next ∷ parts)

-- the lines of the bytes, each of at most `most` bytes, or nothing in its place
unfoldable pub lines : ℕ → List ℕ → List (Option (List ℕ))
lines most bytes = lines_of_parts most (slice_split (λ b. b == 10) bytes)
