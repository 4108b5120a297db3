use Rattle.std.proofs.Common.{◌-◌, drop, length, map, reverse}
use Rattle.wk_table_rows.specs.PageTable.{IsCut}
use Rattle.wk_table_rows.proofs.page_table.cut_by_page.Given as goal

abbrev pub invariant-loop-i : goal.invariant-loop-i
invariant-loop-i g l =
    IsCut g.R.RowOf.row_of g.R.Numbered.number l.initial.rows.items l.rows.items (reverse l.slots.items) (map (λ page. page.page_id) (drop (length l.pages - l.i) l.pages))
