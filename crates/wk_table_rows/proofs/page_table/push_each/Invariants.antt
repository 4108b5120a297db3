use Rattle.std.proofs.Common.{◌≡◌, ◌+◌, ◌++◌, map, length, vec_len, vec_capacity}
use Rattle.wk_table_rows.proofs.page_table.push_each.Given as goal

abbrev pub invariant-loop-item : goal.invariant-loop-item
invariant-loop-item g l =
    (l.rows.items ≡ l.initial.rows.items ++ map (g.R.RowOf.row_of l.page l.namespace) l.yielded) × (vec_len l.rows ≡ vec_len l.initial.rows + length l.yielded)
    × (vec_capacity l.rows ≡ vec_capacity l.initial.rows)
