-- How far an input was read, and which of its lines were given (own).
use Rattle.std.specs.Prelude.{◌≡◌, ◌≢◌, ℕ, ◌+◌, ◌-◌, ◌*◌, ◌^◌, ◌<◌, ◌≤◌, Bool, true, false, List, [], ◌++◌, length, Option}
use Rattle.std.specs.Io.KnownBytes.{Consumes, IsAtEnd}
use Rattle.wk_bytes.specs.Line.{line_in}
use Rattle.wk_bytes.specs.LineCutter.{Cutting, HasNoNewline, lines_to_come}
use Rattle.wk_text_rules.specs.Lines.{lines}
use Rattle.wk_lines.specs.Stop.{IsReading}
use Rattle.wk_lines.specs.declared.reading.NextLine.{NextLine}
use Rattle.wk_lines.specs.declared.reading.NextLine.TheVariants.{Inner, Last}
use Rattle.wk_lines.specs.declared.stop.Stop.{Stop}
use Rattle.wk_lines.specs.declared.stop.Stop.TheVariants.{Bound, Memory}

-- what was read and isn't given yet, and how many bytes were read in all
pub record Reading : Type 0 where
  pub cutter : Cutting
  pub total : ℕ

-- nothing was read yet of an input whose lines have at most so many bytes
abbrev pub nothing_read : ℕ → Reading
nothing_read most = record { cutter = record { most = most; whole = []; rest = [] }; total = 0 }

-- a bound on the lines that can still be given before the input's last
abbrev pub lines_left : Reading → ℕ
lines_left r = 2 * (2 ^ 41 - r.total) + length r.cutter.whole

-- some bytes were read, and these lines were given of those that were to come
pub record Reads (old new : Reading) (rest later : Option (List ℕ)) (given : List (Option (List ℕ))) : Type 0 where
  pub read : List ℕ
  pub most : new.cutter.most ≡ old.cutter.most
  pub consumed : Consumes rest later read
  pub counted : new.total ≡ old.total + length read
  pub come : (more : List ℕ) → lines_to_come old.cutter (read ++ more) ≡ given ++ lines_to_come new.cutter more

-- The bytes were read to the input's end, and these lines are all that were to come. What is left behind the last newline
-- makes the last of them, so whoever wants only lines that end with a newline leaves it out.
pub record ReadsToEnd (old new : Reading) (rest later : Option (List ℕ)) (given : List (Option (List ℕ))) : Type 0 where
  pub read : List ℕ
  pub left : List ℕ
  pub consumed : Consumes rest later read
  pub ended : IsAtEnd later
  pub counted : new.total ≡ old.total + length read
  pub come : given ≡ lines_to_come old.cutter read
  pub unended : HasNoNewline left
  pub joined : (more : List ℕ) → lines_to_come old.cutter (read ++ more) ≡ lines old.cutter.most (left ++ more)

-- No line that ends with a newline is left of what was read, and none was lost.
pub record LeavesNoLine (old new : Reading) (read : List ℕ) : Type 0 where
  pub come : (more : List ℕ) → lines_to_come old.cutter (read ++ more) ≡ lines_to_come new.cutter more
  pub most : new.cutter.most ≡ old.cutter.most
  pub none_whole : new.cutter.whole ≡ []
  pub begun : HasNoNewline new.cutter.rest

-- some bytes were read, and then no more can be; each whole line of them was given before, but where memory was wanting
pub record StopsReading (old new : Reading) (rest later : Option (List ℕ)) (stop : Stop) : Type 0 where
  pub read : List ℕ
  pub consumed : Consumes rest later read
  pub counted : new.total ≡ old.total + length read
  pub bound : stop ≡ Bound → 2 ^ 40 ≤ new.total
  pub is_reading : IsReading stop
  pub all_given : stop ≢ Memory → LeavesNoLine old new read

-- what comes next of an input is given
abbrev pub Gives : Reading → Reading → Option (List ℕ) → Option (List ℕ) → NextLine → Type 0
Gives old new rest later (Inner line) = Reads old new rest later (line_in line) × (lines_left new < lines_left old)
Gives old new rest later (Last line) = ReadsToEnd old new rest later (line_in line)

-- one read: the input was at its end, or bytes were read
abbrev pub Fills : Reading → Reading → Option (List ℕ) → Option (List ℕ) → Bool → Type 0
Fills old new rest later true = (new ≡ old) × Consumes rest later [] × IsAtEnd later
Fills old new rest later false = Reads old new rest later [] × (old.total < new.total) × (lines_left new ≤ lines_left old)
