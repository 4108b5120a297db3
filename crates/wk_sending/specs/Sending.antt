-- What is sent on a connection, and how a session ends by its reading and its writing (own).
use Rattle.std.specs.Prelude.{◌≡◌, ◌≢◌, ◌⊎◌, ◌≤◌, ℕ, true, List, [], Option, Result, Ok, Err}
use Rattle.std.specs.Io.KnownBytes.{Appends}
use Rattle.wk_base.specs.Faults.{Rose}
use Rattle.wk_wire_rules.specs.Responses.{response}
use Rattle.wk_http.specs.declared.report.SessionEnd.{SessionEnd}
use Rattle.wk_http.specs.declared.report.SessionEnd.TheVariants.{Bad, ReadFault, WriteFault}
use Rattle.wk_session_rules.specs.Sessions.{AppendsPart, IsWritingEnd}

-- all of these bytes were sent, or a prefix where the writing ended
abbrev pub IsSent : List ℕ → Option (List ℕ) → Option (List ℕ) → Result (Unit {0}) SessionEnd → Type 0
IsSent bytes taken later (Ok done) = Appends taken later bytes
IsSent bytes taken later (Err end) = IsWritingEnd end × AppendsPart taken later [] bytes

-- how a session ends whose reading ended so: to a bad place its status was sent, or a prefix of that
abbrev pub IsEnded : Option (List ℕ) → Option (List ℕ) → SessionEnd → SessionEnd → Type 0
IsEnded taken later (Bad status) end =
    ((end ≡ Bad status) × Appends taken later (response status [] true)) ⊎ (IsWritingEnd end × AppendsPart taken later [] (response status [] true))
IsEnded taken later why end = (end ≡ why) × (later ≡ taken)

-- the link's counts of faults behind a session that ended so: each rose where that was the end, and stayed where it wasn't
pub record IsCounted (end : SessionEnd) (reads more_reads writes more_writes : ℕ) : Type 0 where
  pub reads_never_fall : reads ≤ more_reads
  pub no_read_fault : end ≢ ReadFault → more_reads ≡ reads
  pub read_fault : end ≡ ReadFault → Rose reads more_reads
  pub writes_never_fall : writes ≤ more_writes
  pub no_write_fault : end ≢ WriteFault → more_writes ≡ writes
  pub write_fault : end ≡ WriteFault → Rose writes more_writes
