use Rattle.std.proofs.Common.{◌≡◌, ◌∙◌, eqb, Some, ap, sym, subst, rules, arith}
use Rattle.std.specs.List.{position}
use Rattle.wk_tables.specs.Room.{lists_room}
use Rattle.wk_tables.specs.Links.{ArePagesOf, pages_of}
use Rattle.wk_tables.proofs.PageLaws.{EachPages-at, there-found}
use Rattle.wk_tables.proofs.tables.Tables.set_rows.Goals as goal

pub unwrap-place-requires : goal.unwrap-place-requires
unwrap-place-requires c = there-found c.args.self.now.tables.pages c.args.page c.page_place.result c.page_place.ensures c.requires.fits

pub set_rows-requires-clause-at : goal.set_rows-requires-clause-at
set_rows-requires-clause-at c =
    let found : c.page_place.result ≡ Some c.unwrap-place.result = search rules in
    EachPages-at c.self.inside.pages.items (pages_of c.self.inside.links) _ c.unwrap-place.result c.self.invariant.by_page
    (ap (λ h. position (λ p. eqb p.page_id c.args.page) h.tables.pages) c.self.view_is ∙ sym c.page_place.ensures ∙ found)

pub invariant_of-self : goal.invariant_of-self
invariant_of-self c = record {
  pages_room = omega (arith, c.self.invariant.pages_room);
  revisions_room = omega (arith, c.self.invariant.revisions_room);
  links_room = c.set_rows.ensures.kept _ c.self.inside.spare (let spare = ap (λ h. h.spare) c.self.view_is in let room : c.unwrap.result ≡ lists_room c.args.rows = search rules in omega (arith, c.requires.room, spare, room)) c.self.invariant.links_room;
  jobs_room = omega (arith, c.self.invariant.jobs_room);
  by_page = subst (λ h. ArePagesOf h c.self.inside.pages.items) (sym c.set_rows.ensures.pages) c.self.invariant.by_page;
  rising = c.self.invariant.rising;
}
