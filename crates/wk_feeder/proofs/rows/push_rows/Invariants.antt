use Rattle.std.proofs.Common.{◌≡◌, ◌++◌, map, string_bytes, take}
use Rattle.wk_feed_rules.specs.Lines.{row}
use Rattle.wk_feeder.specs.Bytes.{feed_bytes}
use Rattle.wk_feeder.proofs.rows.push_rows.Given as goal

abbrev pub invariant-rows : goal.invariant-rows
invariant-rows g l = string_bytes l.lines ≡ string_bytes l.initial.lines ++ feed_bytes (map row (map g.T.Table.told (take l.entry-index l.rows)))
