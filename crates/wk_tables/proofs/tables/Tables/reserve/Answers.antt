use Rattle.std.proofs.Common.{◌≡◌, List, sym, subst, arith}
use Rattle.wk_table_rules.specs.Rows.{PageColumns}
use Rattle.wk_table_rows.specs.Rising.{IsRising}
use Rattle.wk_tables.specs.Links.{ArePagesOf, pages_of}
use Rattle.wk_tables.specs.declared.links.Links.{Links}
use Rattle.wk_tables.proofs.tables.Tables.reserve.Goals as goal

kept-pages : (old new : Links) (pages items : List PageColumns) → pages_of new ≡ pages_of old → items ≡ pages → ArePagesOf (pages_of old) pages → ArePagesOf (pages_of new) items
kept-pages old new pages items same is of = subst (λ h. ArePagesOf h items) (sym same) (subst (ArePagesOf (pages_of old)) (sym is) of)

pub invariant_of-self-in_err-reserve-3 : goal.invariant_of-self-in_err-reserve-3
invariant_of-self-in_err-reserve-3 c = record {
  pages_room = omega (arith, c.self.invariant.pages_room, c.reserve.ensures.len, c.reserve.ensures.capacity);
  revisions_room = omega (arith, c.self.invariant.revisions_room, c.reserve-2.ensures.len, c.reserve-2.ensures.capacity);
  links_room = c.reserve-3.ensures.not_less c.self.inside.spare c.self.invariant.links_room;
  jobs_room = c.self.invariant.jobs_room;
  by_page = kept-pages c.self.inside.links c.reserve-3.new.self c.self.inside.pages.items c.reserve.new.self.items c.reserve-3.ensures.pages c.reserve.ensures.items c.self.invariant.by_page;
  rising = λ so. subst (IsRising (λ p. p.page_id)) (sym c.reserve.ensures.items) (c.self.invariant.rising so);
}

pub invariant_of-self-in_err-reserve-4 : goal.invariant_of-self-in_err-reserve-4
invariant_of-self-in_err-reserve-4 c = record {
  pages_room = omega (arith, c.self.invariant.pages_room, c.reserve.ensures.len, c.reserve.ensures.capacity);
  revisions_room = omega (arith, c.self.invariant.revisions_room, c.reserve-2.ensures.len, c.reserve-2.ensures.capacity);
  links_room = c.reserve-3.ensures.not_less c.self.inside.spare c.self.invariant.links_room;
  jobs_room = omega (arith, c.self.invariant.jobs_room, c.reserve-4.ensures.not_less);
  by_page = kept-pages c.self.inside.links c.reserve-3.new.self c.self.inside.pages.items c.reserve.new.self.items c.reserve-3.ensures.pages c.reserve.ensures.items c.self.invariant.by_page;
  rising = λ so. subst (IsRising (λ p. p.page_id)) (sym c.reserve.ensures.items) (c.self.invariant.rising so);
}

pub invariant_of-self-2 : goal.invariant_of-self-2
invariant_of-self-2 c =
    let before = c.reserve-3.ensures.not_less c.self.inside.spare c.self.invariant.links_room in
    let more = c.in_ok-reserve-3.ensures.room in
    let top = c.max-self-inside.ensures in
    record {
      pages_room = omega (arith, c.self.invariant.pages_room, c.in_ok-reserve.ensures, top);
      revisions_room = omega (arith, c.self.invariant.revisions_room, c.in_ok-reserve-2.ensures, top);
      links_room = (omega (arith, before.0, more.0, top), omega (arith, before.1, more.1, top), omega (arith, before.2, more.2, top), omega (arith, before.3, more.3, top), omega (arith, before.4, more.4, top));
      jobs_room = omega (arith, c.self.invariant.jobs_room, c.reserve-4.ensures.not_less, c.in_ok-reserve-4.ensures.room, top);
      by_page = kept-pages c.self.inside.links c.reserve-3.new.self c.self.inside.pages.items c.reserve.new.self.items c.reserve-3.ensures.pages c.reserve.ensures.items c.self.invariant.by_page;
      rising = λ so. subst (IsRising (λ p. p.page_id)) (sym c.reserve.ensures.items) (c.self.invariant.rising so);
    }
