use Rattle.std.proofs.Common.{◌≡◌, ◌+◌, ◌∙◌, take, set, Some, ap, sym, subst, arith}
use Rattle.wk_good_rows.specs.Last.{AreLast, last_of}
use Rattle.wk_good_rows.proofs.Judging.{take-next}
use Rattle.wk_good_rows.proofs.Lasts.{AreLast-more}
use Rattle.wk_good_rows.proofs.history.last_revisions.Goals as goal

pub loop-i-preserved : goal.loop-i-preserved
loop-i-preserved c =
    let revisions = c.args.revisions.now in
    let i = c.loop-i.i in
    let row = c.index-revisions-i.result in
    let own : c.page_place-place.result + 1 ≡ row.rev_page = c.page_place-place.ensures.place ∙ ap (λ r. r.rev_page) c.revision.view_is in
    subst (λ l. AreLast (set c.loop-i.last.items c.page_place-place.result (Some l)) (take (i + 1) revisions) c.args.pages) (sym c.last_of.ensures)
    (subst (λ front. AreLast (set c.loop-i.last.items c.page_place-place.result (Some (last_of row))) front c.args.pages) (sym (take-next revisions i row (omega arith) c.index-revisions-i.is))
    (AreLast-more c.loop-i.last.items (take i revisions) c.args.pages row c.page_place-place.result own c.page_place-place.ensures.within c.loop-i.invariant))
