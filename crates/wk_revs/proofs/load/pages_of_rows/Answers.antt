use Rattle.std.proofs.Common.{ap, ◌∙◌}
use Rattle.wk_revs.specs.Revs.{pages_of}
use Rattle.wk_revs.proofs.PageLaws.{title_eq_comm}
use Rattle.wk_revs.proofs.RowLaws.{good_title, page_put, placed}
use Rattle.wk_revs.proofs.load.pages_of_rows.Goals as goal

pub title_of-requires : goal.title_of-requires
title_of-requires c =
    good_title c.args.rows.now c.rows.row-index c.row-item.result c.requires
    (placed c.args.rows.now c.rows.row-index c.row-item.result c.rows-test.true c.row-item.is)

pub rows-preserved : goal.rows-preserved
rows-preserved c =
    let there = placed c.args.rows.now c.rows.row-index c.row-item.result c.rows-test.true c.row-item.is in
    ap pages_of c.in_ok-insert.ensures.entries
    ∙ page_put c.args.rows.now c.rows.row-index c.row-item.result c.rows.pages.entries _ c.in_ok-title.title _
    (λ key. title_eq_comm key c.in_ok-title.title) c.requires there c.rows.invariant c.in_ok-title.ensures (ap (λ row. row.page_latest) c.row.view_is)
