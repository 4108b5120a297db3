use Rattle.std.proofs.Common.{◌≡◌, ◌++◌, map, take}
use Rattle.wk_table_rows.proofs.page_table.push_each_shared.Given as goal

abbrev pub invariant-loop-item : goal.invariant-loop-item
invariant-loop-item g l = l.out.items ≡ l.initial.out.items ++ map (g.R.RowOf.row_of l.page l.namespace) (take l.item-index l.items)
