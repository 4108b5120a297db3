use Rattle.std.proofs.Common.{◌≡◌, ◌+◌, ◌-◌, ◌*◌, ◌^◌, ◌<◌, length}
use Rattle.wk_replica_reads.specs.Looks.{IsFree, seen_by}
use Rattle.wk_replica_reads.specs.Serving.{HasServed}
use Rattle.wk_replica_reads.proofs.session.serve_all.Given as goal

-- the messages so far were answered in full
abbrev pub invariant-messages : goal.invariant-messages
invariant-messages g l = record {
  served : HasServed (seen_by l.shared l.fn.pass) (seen_by l.shared l.pass)
      (record { rest = g.L.Source.rest l.fn.link; taken = g.L.Sink.taken l.fn.link })
      (record { rest = g.L.Source.rest l.link; taken = g.L.Sink.taken l.link })
      l.messages l.points.items;
  free : IsFree l.shared l.pass;
  few : l.messages.total < 2 ^ 40 + 2 ^ 13;
  read_faults : g.L.Source.faults l.link ≡ g.L.Source.faults l.fn.link;
  write_faults : g.L.Sink.faults l.link ≡ g.L.Sink.faults l.fn.link;
}

abbrev pub decreases-messages : goal.decreases-messages
decreases-messages g l = 2 * (2 ^ 41 - l.messages.total) + length l.messages.left
