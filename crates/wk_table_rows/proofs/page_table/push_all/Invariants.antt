use Rattle.std.proofs.Common.{◌≡◌, ◌++◌, take}
use Rattle.wk_table_rows.proofs.page_table.push_all.Given as goal

abbrev pub invariant-loop-row : goal.invariant-loop-row
invariant-loop-row g l = l.out.items ≡ l.initial.out.items ++ take l.row-index l.rows
