-- What a report has written by its end (own).
use Rattle.std.specs.Prelude.{List, ℕ, Option}
use Rattle.std.specs.Io.KnownBytes.{Appends, Keeps}
use Rattle.wk_base.specs.Writing.{AppendsPrefix}
use Rattle.wk_reports.specs.declared.written.ReportEnd.{ReportEnd}
use Rattle.wk_reports.specs.declared.written.ReportEnd.TheVariants.{Done, WriteFault, Memory}

-- the whole text; a prefix of it, where a write failed; nothing, where memory ran out
abbrev pub HasWritten : ReportEnd → List ℕ → Option (List ℕ) → Option (List ℕ) → Type 0
HasWritten Done text before after = Appends before after text
HasWritten WriteFault text before after = AppendsPrefix before after text
HasWritten Memory text before after = Keeps before after
