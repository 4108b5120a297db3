use Rattle.std.proofs.Common.{◌≡◌, ◌+◌, ◌∙◌, take, set, Some, ap, sym, subst, arith}
use Rattle.std.proofs.lemmas.Bool.{eq-eqb}
use Rattle.wk_table_rules.specs.GoodStore.{current_of, has_good_parent}
use Rattle.wk_good_rows.specs.Last.{AreLast, current_in, last_of}
use Rattle.wk_good_rows.proofs.Judging.{Judged-more, take-next}
use Rattle.wk_good_rows.proofs.Lasts.{AreLast-more, current-is}
use Rattle.wk_good_rows.proofs.history.bad_parent.Goals as goal

pub loop-i-preserved : goal.loop-i-preserved
loop-i-preserved c =
    let revisions = c.args.revisions.now in
    let i = c.loop-i.i in
    let row = c.index-revisions-i.result in
    let place = c.page_place-place.result in
    let before = take i revisions in
    let own : place + 1 ≡ row.rev_page = c.page_place-place.ensures.place ∙ ap (λ r. r.rev_page) c.revision.view_is in
    let parent : row.rev_parent_id ≡ current_of before row.rev_page =
    sym (ap (λ r. r.rev_parent_id) c.revision.view_is) ∙ c.if-revision-current_in.false ∙ c.current_in.ensures ∙ ap current_in c.index.ensures
    ∙ current-is c.loop-i.last.items before c.args.pages place row.rev_page c.index.result.now c.loop-i.invariant.1 c.page_place-place.ensures.within own in (
      Judged-more has_good_parent revisions i row (omega arith) c.index-revisions-i.is (eq-eqb row.rev_parent_id (current_of before row.rev_page) parent) c.loop-i.invariant.0,
      subst (λ l. AreLast (set c.loop-i.last.items place (Some l)) (take (i + 1) revisions) c.args.pages) (sym c.last_of.ensures)
          (subst (λ front. AreLast (set c.loop-i.last.items place (Some (last_of row))) front c.args.pages) (sym (take-next revisions i row (omega arith) c.index-revisions-i.is))
          (AreLast-more c.loop-i.last.items before c.args.pages row place own c.page_place-place.ensures.within c.loop-i.invariant.1)),
    )
