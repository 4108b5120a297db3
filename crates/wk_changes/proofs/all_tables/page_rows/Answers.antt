use Rattle.std.proofs.Common.{◌<◌, length, ◌∙◌, arith}
use Rattle.wk_wiki_rules.specs.Tables.{page_row}
use Rattle.wk_changes.proofs.NumberedRows.{push-row}
use Rattle.wk_changes.proofs.all_tables.page_rows.Goals as goal

pub loop-place-preserved : goal.loop-place-preserved
loop-place-preserved c =
    let h = c.args.revs.now.history in
    let within : c.loop-place.place < length h.pages = omega arith in
    c.in_ok-push.ensures.items
    ∙ push-row (page_row h) h.pages c.loop-place.place c.loop-place.rows.items c.in_ok-page_row_at.field-0 within c.loop-place.invariant
    (λ page at. c.in_ok-page_row_at.ensures page at)
