use Rattle.std.proofs.Common.{◌≡◌, map, take}
use Rattle.std.specs.List.{enumerate_from}
use Rattle.wk_wiki_rules.specs.Tables.{revision_row}
use Rattle.wk_changes.proofs.all_tables.revision_rows.Given as goal

abbrev pub invariant-loop-place : goal.invariant-loop-place
invariant-loop-place l = l.rows.items ≡ map revision_row (enumerate_from 1 (take l.place l.revs.history.revisions))
