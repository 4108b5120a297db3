-- So far the bytes before `at` were taken, and no write failed.
use Rattle.std.proofs.Common.{◌≡◌, length, take, ◌-◌, ◌≤◌}
use Rattle.std.specs.Io.KnownBytes.{Appends}
use Rattle.wk_base.proofs.writing.write_all.Given as goal

abbrev pub invariant-writes : goal.invariant-writes
invariant-writes g l = record {
  in_range : l.at ≤ length l.bytes;
  taken : Appends (g.O.Sink.taken l.initial.output) (g.O.Sink.taken l.output) (take l.at l.bytes);
  no_fault : g.O.Sink.faults l.output ≡ g.O.Sink.faults l.initial.output;
}

abbrev pub decreases-writes : goal.decreases-writes
decreases-writes g l = length l.bytes - l.at
