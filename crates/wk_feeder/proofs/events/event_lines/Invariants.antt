use Rattle.std.proofs.Common.{◌≡◌, map, string_bytes, take}
use Rattle.wk_feeder.specs.Bytes.{event_bytes}
use Rattle.wk_feeder.specs.Events.{event_of}
use Rattle.wk_feeder.proofs.events.event_lines.Given as goal

abbrev pub invariant-events : goal.invariant-events
invariant-events l = string_bytes l.lines ≡ event_bytes (map event_of (take l.event-index l.events))
