use Rattle.std.proofs.Common.{◌-◌, ◌≡◌, ◌≤◌, ◌++◌, drop, length, map}
use Rattle.wk_feeder.specs.Events.{event_of}
use Rattle.wk_feeder.proofs.events.events_behind.Given as goal

abbrev pub invariant-entries : goal.invariant-entries
invariant-entries g l =
    (l.point ≡ length l.fn.wiki.journal) × (l.at ≤ l.point) × (map event_of l.events.items ++ drop l.at l.fn.wiki.journal ≡ drop l.fn.first l.fn.wiki.journal)

abbrev pub decreases-entries : goal.decreases-entries
decreases-entries g l = l.point - l.at
