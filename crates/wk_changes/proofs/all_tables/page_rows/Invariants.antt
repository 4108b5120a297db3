use Rattle.std.proofs.Common.{◌≡◌, map, take}
use Rattle.std.specs.List.{enumerate_from}
use Rattle.wk_wiki_rules.specs.Tables.{page_row}
use Rattle.wk_changes.proofs.all_tables.page_rows.Given as goal

abbrev pub invariant-loop-place : goal.invariant-loop-place
invariant-loop-place l = l.rows.items ≡ map (page_row l.revs.history) (enumerate_from 1 (take l.place l.revs.history.pages))
