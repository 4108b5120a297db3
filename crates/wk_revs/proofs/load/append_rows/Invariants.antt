use Rattle.std.proofs.Common.{◌≡◌, map, take}
use Rattle.wk_table_rules.specs.Stored.{revision_of_row}
use Rattle.wk_revs.proofs.load.append_rows.Given as goal

abbrev pub invariant-rows : goal.invariant-rows
invariant-rows l =
    (l.revs.history.revisions ≡ map revision_of_row (take l.row-index l.rows)) × (l.revs.history.pages ≡ l.fn.revs.history.pages)
