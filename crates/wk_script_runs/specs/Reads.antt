-- Which lines of an input were read (own).
use Rattle.std.specs.Prelude.{◌≡◌, ℕ, ◌+◌, ◌^◌, ◌<◌, Bool, List, ◌++◌, length, MatchBool, IsTrue, Option}
use Rattle.std.specs.Io.KnownBytes.{Consumes, IsAtEnd}
use Rattle.wk_bytes.specs.LineCutter.{HasNoNewline}
use Rattle.wk_text_rules.specs.Lines.{lines}
use Rattle.wk_script_rules.specs.Runs.{max_line}
use Rattle.wk_script_runs.specs.Serving.{Begins}

-- no more was read than 2^40 bytes and one piece
abbrev pub IsFew : List ℕ → Type 0
IsFew read = length read < 2 ^ 40 + 2 ^ 13

-- Some bytes of the input were read, and these are its first lines: those of each input that begins with these bytes. Or
-- the input was at its end, and the last line may be among them.
pub record ReadsFirst (rest later : Option (List ℕ)) (read : List ℕ) (done : List (Option (List ℕ))) : Type 0 where
  pub consumed : Consumes rest later read
  pub few : IsFew read
  pub ended : Bool
  pub at_end : IsTrue ended → IsAtEnd later
  pub whole : MatchBool ended (Begins done (lines max_line read)) ((more : List ℕ) → Begins done (lines max_line (read ++ more)))

-- These are all lines of the bytes that end with a newline: whatever comes yet, the others are the lines of it behind bytes
-- that have no newline.
pub record AreWholeLines (read : List ℕ) (done : List (Option (List ℕ))) : Type 0 where
  pub rest : List ℕ
  pub no_newline : HasNoNewline rest
  pub split : (more : List ℕ) → lines max_line (read ++ more) ≡ done ++ lines max_line (rest ++ more)
