use Rattle.std.proofs.Common.{◌≡◌, ◌∙◌, ℕ, List, Option, map, sym, subst, arith}
use Rattle.std.specs.Prelude.{IfSome}
use Rattle.wk_table_rules.specs.Rows.{PageColumns}
use Rattle.wk_table_rows.specs.Rising.{IsRising}
use Rattle.wk_tables.proofs.tables.Tables.from_rows.Goals as goal

pub from_rows-requires-4 : goal.from_rows-requires-4
from_rows-requires-4 c so = subst (IsRising (λ page. page.page_id)) (c.deref.ensures.value ∙ sym c.deref-5.ensures.value) (c.is_rising-is_in_order.ensures.0 so)

pub from_rows-requires-5 : goal.from_rows-requires-5
from_rows-requires-5 c so = subst (IsRising (λ page. page.page_id)) (c.deref.ensures.value ∙ sym c.deref-6.ensures.value) (c.is_rising-is_in_order.ensures.0 so)

pub invariant_of-result : goal.invariant_of-result
invariant_of-result c =
    let of = λ (held : Option (List ℕ)) (a b : List PageColumns) (same : a ≡ b) (is : IfSome held (λ numbers. numbers ≡ map (λ page. page.page_id) a)).
    subst (λ pages. IfSome held (λ numbers. numbers ≡ map (λ page. page.page_id) pages)) same is in
    record {
      pages_room = omega arith;
      revisions_room = omega arith;
      links_room = (omega arith, omega arith, omega arith, omega arith, omega arith);
      jobs_room = omega arith;
      by_page = (
        of c.in_ok-from_rows.field-0.pages c.deref-2.result.now c.rows.inside.pages.items c.deref-2.ensures.value c.in_ok-from_rows.ensures.pages,
        of c.in_ok-from_rows-2.field-0.pages c.deref-3.result.now c.rows.inside.pages.items c.deref-3.ensures.value c.in_ok-from_rows-2.ensures.pages,
        of c.in_ok-from_rows-3.field-0.pages c.deref-4.result.now c.rows.inside.pages.items c.deref-4.ensures.value c.in_ok-from_rows-3.ensures.pages,
        of c.in_ok-from_rows-4.field-0.pages c.deref-5.result.now c.rows.inside.pages.items c.deref-5.ensures.value c.in_ok-from_rows-4.ensures.pages,
        of c.in_ok-from_rows-5.field-0.pages c.deref-6.result.now c.rows.inside.pages.items c.deref-6.ensures.value c.in_ok-from_rows-5.ensures.pages,
      );
      rising = λ so. subst (IsRising (λ page. page.page_id)) c.deref.ensures.value (c.is_rising-is_in_order.ensures.0 so);
    }
