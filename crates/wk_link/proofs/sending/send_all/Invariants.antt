-- So far the bytes before `at` were taken, and no write failed.
use Rattle.std.proofs.Common.{◌≡◌, length, take, ◌-◌, ◌≤◌}
use Rattle.std.specs.Io.KnownBytes.{Appends}
use Rattle.wk_link.proofs.sending.send_all.Given as goal

abbrev pub invariant-writes : goal.invariant-writes
invariant-writes g l = record {
  in_range : l.at ≤ length l.bytes;
  taken : Appends (g.L.Sink.taken l.initial.link) (g.L.Sink.taken l.link) (take l.at l.bytes);
  no_fault : g.L.Sink.faults l.link ≡ g.L.Sink.faults l.initial.link;
  rest : g.L.Source.rest l.link ≡ g.L.Source.rest l.initial.link;
  no_read_fault : g.L.Source.faults l.link ≡ g.L.Source.faults l.initial.link;
}

abbrev pub decreases-writes : goal.decreases-writes
decreases-writes g l = length l.bytes - l.at
