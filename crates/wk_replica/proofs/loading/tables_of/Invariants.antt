use Rattle.std.proofs.Common.{◌≡◌, map, take}
use Rattle.wk_feed_rules.specs.Taking.{tables_of_rows}
use Rattle.wk_feed_lines.specs.Said.{row_of}
use Rattle.wk_replica.proofs.loading.tables_of.Given as goal

abbrev pub invariant-rows : goal.invariant-rows
invariant-rows l = l.tables ≡ tables_of_rows (map row_of (take l.row-index l.rows))
