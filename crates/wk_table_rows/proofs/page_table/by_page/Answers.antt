use Rattle.std.proofs.Common.{arith}
use Rattle.wk_table_rows.proofs.PageTableLaws.{IsByPage-cut}
use Rattle.wk_table_rows.proofs.page_table.by_page.Goals as goal

pub invariant_of-result : goal.invariant_of-result
invariant_of-result g c =
    (omega arith, IsByPage-cut g.R.RowOf.row_of g.R.Numbered.number c.args.rows.items c.cut_by_page.new.rows.items c.in_ok-slots.slots.items c.args.pages.now c.in_ok-slots.ensures c.requires)
