use Rattle.std.proofs.Common.{◌≡◌, ℕ, ◌+◌, ◌-◌, ◌^◌, ◌<◌}
use Rattle.wk_messages.specs.Reading.{ReadsOn}
use Rattle.wk_messages.proofs.reading.next_message.Given as goal

-- bytes were read, and no message was given
abbrev pub invariant-reads : goal.invariant-reads
invariant-reads g l =
    ReadsOn (record { left = l.fn.feed; total = l.fn.total }) (record { left = l.feed; total = l.total })
    (g.L.Source.rest l.fn.link) (g.L.Source.rest l.link)
    × (l.total < 2 ^ 40 + 2 ^ 13)
    × (g.L.Source.faults l.link ≡ g.L.Source.faults l.fn.link)
    × (g.L.Sink.taken l.link ≡ g.L.Sink.taken l.fn.link)
    × (g.L.Sink.faults l.link ≡ g.L.Sink.faults l.fn.link)

abbrev pub decreases-reads : goal.decreases-reads
decreases-reads g l = 2 ^ 41 - l.total
