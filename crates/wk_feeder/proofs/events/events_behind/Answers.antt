use Rattle.std.proofs.Common.{◌≡◌, ◌-◌, ◌+◌, ap, arith, drop, slice_get, ◌∙◌}
use Rattle.wk_feeder.specs.Events.{event_of}
use Rattle.wk_feeder.proofs.Lists.{takes-one}
use Rattle.wk_feeder.proofs.events.events_behind.Goals as goal

pub entries-preserved : goal.entries-preserved
entries-preserved g c =
    let journal = c.args.wiki.now.journal in
    let at = c.entries.at in
    let more = c.entries-test.true in
    let same : at ≡ at + 1 - 1 = omega arith in (
      c.entries.invariant.0,
      omega (arith, more),
      rw c.in_ok-push.ensures.items (takes-one event_of c.entries.events.items c.in_ok-event_at.field-0 journal at (drop c.args.first journal)
          (ap (slice_get journal) same ∙ c.in_ok-event_at.ensures) c.entries.invariant.2),
    )
