use Rattle.std.proofs.Common.{◌≡◌, map, take}
use Rattle.wk_table_rules.specs.Stored.{page_of_row}
use Rattle.wk_revs.specs.Revs.{pages_of}
use Rattle.wk_revs.proofs.load.pages_of_rows.Given as goal

abbrev pub invariant-rows : goal.invariant-rows
invariant-rows l = pages_of l.pages.entries ≡ map page_of_row (take l.row-index l.rows)
