use Rattle.std.proofs.Common.{◌<◌, length, ◌∙◌, arith}
use Rattle.wk_wiki_rules.specs.Tables.{revision_row}
use Rattle.wk_changes.proofs.NumberedRows.{push-row}
use Rattle.wk_changes.proofs.all_tables.revision_rows.Goals as goal

pub loop-place-preserved : goal.loop-place-preserved
loop-place-preserved c =
    let revisions = c.args.revs.now.history.revisions in
    let within : c.loop-place.place < length revisions = omega arith in
    c.in_ok-push.ensures.items
    ∙ push-row revision_row revisions c.loop-place.place c.loop-place.rows.items c.in_ok-revision_row_at.field-0 within c.loop-place.invariant
    (λ revision at. c.in_ok-revision_row_at.ensures revision at)
