use Rattle.std.proofs.Common.{◌<◌, subst, arith}
use Rattle.std.specs.Prelude.{IfSome}
use Rattle.std.specs.List.{All}
use Rattle.wk_table_rows.specs.PageTable.{KeepsTable, pages_held}
use Rattle.wk_table_rows.proofs.page_table.add_slot.Goals as goal

pub returns-in-ByPage-clause-kept : goal.returns-in-ByPage-clause-kept
returns-in-ByPage-clause-kept g c n m le keeps =
    let kept = subst (λ f. KeepsTable g.R.RowOf.row_of g.R.Numbered.number f m) c.in-ByPage.is keeps in
    let above = subst (λ f. IfSome (pages_held f) (All (λ earlier. earlier < c.args.page))) c.in-ByPage.is c.requires.above in
    (omega (arith, le, kept.0, c.push_slot.ensures.len, c.push_slot.ensures.capacity), c.push_slot.ensures.kept above kept.1)
