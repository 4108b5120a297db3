use Rattle.std.proofs.Common.{◌≡◌, ◌∙◌, true, eqb, ap, sym, subst, arith}
use Rattle.std.specs.List.{position}
use Rattle.wk_table_rules.specs.Changes.{edit_fits, set_page}
use Rattle.wk_tables.proofs.PageLaws.{added-above}
use Rattle.wk_tables.proofs.tables.Tables.set_page.Goals as goal

pub put_page-requires-clause-above : goal.put_page-requires-clause-above
put_page-requires-clause-above c none =
    let fits = subst (λ h. edit_fits h.tables (set_page c.args.row) ≡ true) (sym c.self.view_is) c.requires.fits in
    let place : c.page_place-place.result ≡ position (λ page. eqb page.page_id c.row.inside.page_id) c.args.self.now.tables.pages = c.page_place-place.ensures in
    added-above c.self.inside.pages.items c.args.row.page_id fits
    (sym none ∙ place ∙ ap (λ h. position (λ page. eqb page.page_id c.row.inside.page_id) h.tables.pages) (sym c.self.view_is)
    ∙ ap (λ r. position (λ page. eqb page.page_id r.page_id) c.self.inside.pages.items) c.row.view_is)

pub invariant_of-self : goal.invariant_of-self
invariant_of-self c = record {
  pages_room = omega (arith, c.self.invariant.pages_room, c.put_page.ensures.len, c.put_page.ensures.capacity);
  revisions_room = omega (arith, c.self.invariant.revisions_room);
  links_room = c.put_page.ensures.room _ c.self.inside.spare (let spare = ap (λ h. h.spare) c.self.view_is in omega (arith, c.requires.room, spare)) c.self.invariant.links_room;
  jobs_room = omega (arith, c.self.invariant.jobs_room);
  by_page = c.put_page.ensures.by_page;
  rising = λ so. c.put_page.ensures.rising (c.self.invariant.rising so);
}
