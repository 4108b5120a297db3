use Rattle.std.proofs.Common.{◌≡◌, ◌+◌, ◌-◌, ◌*◌, ◌^◌, ◌<◌, length}
use Rattle.wk_shared.specs.Calls.{IsFree, MayFail, seen_by}
use Rattle.wk_session.specs.Serving.{HasServed}
use Rattle.wk_session.proofs.session.serve_all.Given as goal

-- the messages so far were answered in full
abbrev pub invariant-messages : goal.invariant-messages
invariant-messages g l = record {
  served : HasServed (MayFail l.shared.start) (seen_by l.shared.start l.fn.worker.reader.pass) (seen_by l.shared.start l.worker.reader.pass)
      (record { rest = g.L.Source.rest l.fn.link; moments = g.C.Clock.left l.fn.clock; taken = g.L.Sink.taken l.fn.link })
      (record { rest = g.L.Source.rest l.link; moments = g.C.Clock.left l.clock; taken = g.L.Sink.taken l.link })
      l.messages l.points.items l.refreshes.items;
  free : IsFree l.shared l.worker.reader.pass;
  few : l.messages.total < 2 ^ 40 + 2 ^ 13;
  read_faults : g.L.Source.faults l.link ≡ g.L.Source.faults l.fn.link;
  write_faults : g.L.Sink.faults l.link ≡ g.L.Sink.faults l.fn.link;
}

abbrev pub decreases-messages : goal.decreases-messages
decreases-messages g l = 2 * (2 ^ 41 - l.messages.total) + length l.messages.left
