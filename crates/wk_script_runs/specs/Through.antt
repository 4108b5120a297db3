-- How far a script's run came, before what is out comes in (own).
use Rattle.std.specs.Prelude.{◌≡◌, ℕ, ◌^◌, ◌≤◌, List, [], length, Option}
use Rattle.std.specs.Io.KnownBytes.{Appends, Consumes, IsAtEnd}
use Rattle.wk_text_rules.specs.Lines.{lines}
use Rattle.wk_table_rules.specs.Rows.{StoreTables}
use Rattle.wk_lines.specs.declared.stop.Stop.{Stop}
use Rattle.wk_lines.specs.declared.stop.Stop.TheVariants.{Memory, ReadFault, WriteFault, Bound}
use Rattle.wk_core.specs.Seen.{WikiSeen}
use Rattle.wk_core.specs.declared.outcomes.LoadCause.{LoadCause}
use Rattle.wk_script_rules.specs.WikiScripts.{TicketDraft}
use Rattle.wk_script_rules.specs.Runs.{max_line, replies_text}
use Rattle.wk_script_steps.specs.Reopened.{IsLost}
use Rattle.wk_script_runs.specs.Outside.{Outside}
use Rattle.wk_script_runs.specs.Reads.{AreWholeLines, IsFew, ReadsFirst}
use Rattle.wk_script_runs.specs.Served.{Writes, WritesInPart}

-- a read of the input stopped it, and no want of memory
abbrev pub IsOfInput : Stop → Type 0
IsOfInput Memory = ⊥
IsOfInput ReadFault = Unit {0}
IsOfInput WriteFault = ⊥
IsOfInput Bound = Unit {0}

-- all lines were answered, to the input's end
pub record IsThrough {K : Type 0} (told : K → Option StoreTables) (faults : K → ℕ) (old new : WikiSeen K) (drafts : List TicketDraft)
    (before after : Outside) (points : List ℕ) : Type 0 where
  pub read : List ℕ
  pub consumed : Consumes before.rest after.rest read
  pub few : IsFew read
  pub ended : IsAtEnd after.rest
  pub writes : Writes told faults old new [] drafts (lines max_line read) before.moments after.moments before.taken after.taken [] points

-- first lines were answered, and a prefix of the answers written
pub record IsPartThrough {K : Type 0} (told : K → Option StoreTables) (faults : K → ℕ) (old new : WikiSeen K) (drafts : List TicketDraft)
    (before after : Outside) (points read : List ℕ) (of_input : Type 0) : Type 0 where
  pub done : List (Option (List ℕ))
  pub first : ReadsFirst before.rest after.rest read done
  pub part : WritesInPart told faults old new [] drafts done before.moments after.moments before.taken after.taken [] points
  pub all : of_input → AreWholeLines read done × Appends before.taken after.taken (replies_text part.replies)

-- the run stopped for this
pub record StopsWithin {K : Type 0} (told : K → Option StoreTables) (faults : K → ℕ) (old new : WikiSeen K) (drafts : List TicketDraft)
    (before after : Outside) (points : List ℕ) (stop : Stop) : Type 0 where
  pub read : List ℕ
  pub part : IsPartThrough told faults old new drafts before after points read (IsOfInput stop)
  pub bound : stop ≡ Bound → 2 ^ 40 ≤ length read

-- the store wasn't opened anew, for this cause
pub record LosesStore {K : Type 0} (told : K → Option StoreTables) (faults : K → ℕ) (old : WikiSeen K) (keeper : K)
    (before after : Outside) (points : List ℕ) (why : LoadCause) : Type 0 where
  pub read : List ℕ
  pub wiki : WikiSeen K
  pub drafts : List TicketDraft
  pub part : IsPartThrough told faults old wiki drafts before after points read ⊥
  pub lost : IsLost told faults wiki drafts why keeper
