-- What a line cutter holds, and the lines that are still to come from it (own).
use Rattle.std.specs.Prelude.{ℕ, ◌+◌, ◌≤◌, length, ◌≢◌, List, ◌++◌, Option, map, option_map}
use Rattle.std.specs.declared.vec.Vec.{Vec}
use Rattle.std.specs.List.{All}
use Rattle.wk_text_rules.specs.Lines.{lines}

-- no newline stands in the bytes
abbrev pub HasNoNewline : List ℕ → Type 0
HasNoNewline bytes = All (λ b. b ≢ 10) bytes

-- as much of a line that has no newline yet as is kept
pub record IsBegun (most : ℕ) (bytes : List ℕ) : Type 0 where
  pub no_newline : HasNoNewline bytes
  pub bounded : length bytes ≤ most + 1

-- the bytes of lines, with nothing in the place of one that is too long
abbrev pub lines_of : {A : Type 0} → List (Option (Vec ℕ A)) → List (Option (List ℕ))
lines_of lines = map (option_map (λ line. line.items)) lines

-- The limit; the whole lines that are not given yet, with nothing in the place of one that is too long; and what
-- came behind the last newline, of which the first `most + 1` bytes are kept: more of them change no line.
pub record Cutting : Type 0 where
  pub most : ℕ
  pub whole : List (Option (List ℕ))
  pub rest : List ℕ

-- the lines that are still to be given, where these bytes are still to be pushed
abbrev pub lines_to_come : Cutting → List ℕ → List (Option (List ℕ))
lines_to_come cutter more = cutter.whole ++ lines cutter.most (cutter.rest ++ more)
