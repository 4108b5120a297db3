-- How far a feed was taken, and what its lines tell (own).
use Rattle.std.specs.Prelude.{◌≡◌, ◌⊎◌, ⊤, ℕ, ◌+◌, ◌^◌, ◌≤◌, List, ◌∷◌, ◌++◌, length, map, Option, Some, IsUtf8}
use Rattle.std.specs.Io.KnownBytes.{Consumes, IsAtEnd}
use Rattle.wk_text_rules.specs.Lines.{lines}
use Rattle.wk_bytes.specs.LineCutter.{lines_to_come}
use Rattle.wk_lines.specs.Reading.{Reading}
use Rattle.wk_feed_rules.specs.Lines.{TableRow, lines_in}
use Rattle.wk_feed_rules.specs.Taking.{FeedRun, FeedSoFar, bad_line, fed, loading, running, told}
use Rattle.wk_replica_serving.specs.declared.ends.FeedEnd.{FeedEnd}
use Rattle.wk_replica_serving.specs.declared.ends.FeedEnd.TheVariants.{Ended, Bad, ReadFault, Bound, Memory}

-- A line may have as many bytes as are read in all.
abbrev pub longest_line : ℕ
longest_line = 2 ^ 40 + 2 ^ 13

-- So much of an input was read, and so many lines of it are done, which tell this. The others are still to come from the reader.
pub record HasTakenFeed (rest later : Option (List ℕ)) (reading : Reading) (so_far : FeedSoFar) (number : ℕ) : Type 0 where
  pub read : List ℕ
  pub consumed : Consumes rest later read
  pub counted : reading.total ≡ length read
  pub most : reading.cutter.most ≡ longest_line
  pub done : List (List ℕ)
  pub come : (more : List ℕ) → lines longest_line (read ++ more) ≡ map Some done ++ lines_to_come reading.cutter more
  pub number_is : number ≡ length done
  pub tell : fed done ≡ told so_far

-- The lines of what was read tell this; what stands behind the last newline is no line.
pub record TellsAll (rest later : Option (List ℕ)) (so_far : FeedSoFar) : Type 0 where
  pub read : List ℕ
  pub consumed : Consumes rest later read
  pub tell : fed (lines_in read) ≡ told so_far

-- they tell a start and so many events
pub record TellsEvents (rest later : Option (List ℕ)) (events : ℕ) : Type 0 where
  pub run : FeedRun
  pub all : TellsAll rest later (running run)
  pub counted : events ≡ length run.events

-- The line with this number, from 1, is the first bad one of what was read. One that isn't UTF-8 is bad too.
pub record HasBadLine (rest later : Option (List ℕ)) (number : ℕ) : Type 0 where
  pub read : List ℕ
  pub consumed : Consumes rest later read
  pub before : List (List ℕ)
  pub line : List ℕ
  pub behind : List (List ℕ)
  pub are : lines_in read ≡ before ++ line ∷ behind
  pub number_is : number ≡ length before + 1
  pub so_far : FeedSoFar
  pub tell : fed before ≡ told so_far
  pub bad : IsUtf8 line → fed (lines_in read) ≡ bad_line number

-- The input was at its end before the line of the start: the line with this number, from 1, isn't there.
pub record EndsEarly (rest later : Option (List ℕ)) (number : ℕ) : Type 0 where
  pub read : List ℕ
  pub consumed : Consumes rest later read
  pub ended : IsAtEnd later
  pub rows : List TableRow
  pub tell : fed (lines_in read) ≡ told (loading rows)
  pub number_is : number ≡ length (lines_in read) + 1

-- 2^40 bytes were read, or more
pub record HasReadMuch (rest later : Option (List ℕ)) : Type 0 where
  pub read : List ℕ
  pub consumed : Consumes rest later read
  pub much : 2 ^ 40 ≤ length read

-- how the taking of a feed ended before the line of its start was taken
abbrev pub EndsBefore : Option (List ℕ) → Option (List ℕ) → FeedEnd → Type 0
EndsBefore rest later Ended = ⊥
EndsBefore rest later (Bad number) = HasBadLine rest later number ⊎ EndsEarly rest later number
EndsBefore rest later ReadFault = ⊤
EndsBefore rest later Bound = HasReadMuch rest later
EndsBefore rest later Memory = ⊤

-- how it ended behind that line, where so many events were taken
abbrev pub EndsFeed : Option (List ℕ) → Option (List ℕ) → ℕ → FeedEnd → Type 0
EndsFeed rest later events Ended = IsAtEnd later × TellsEvents rest later events
EndsFeed rest later events (Bad number) = HasBadLine rest later number
EndsFeed rest later events ReadFault = ⊤
EndsFeed rest later events Bound = HasReadMuch rest later
EndsFeed rest later events Memory = ⊤
