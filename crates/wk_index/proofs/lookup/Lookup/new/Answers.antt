use Rattle.std.proofs.Common.{◌∙◌, map, ap, subst}
use Rattle.wk_text_rules.specs.Titles.{PageTitle}
use Rattle.wk_page_rules.specs.PageRows.{Member}
use Rattle.wk_table_rows.specs.Members.{member_of}
use Rattle.wk_index.specs.InOrder.{IsInOrder}
use Rattle.wk_index.proofs.OrderLaws.{order-triples}
use Rattle.wk_index.proofs.lookup.Lookup.new.Goals as goal

pub invariant_of-result : goal.invariant_of-result
invariant_of-result c = record {
  by_templates = λ is. subst (λ l. IsInOrder (λ (t : PageTitle). t) l) (c.deref.ensures.value ∙ ap (λ r. r.templates) c.rows.view_is) (c.is_in_order.ensures is);
  by_exists = λ is. subst (λ l. IsInOrder (λ (t : PageTitle). t) l) (c.deref-2.ensures.value ∙ ap (λ r. r.exists) c.rows.view_is) (c.is_in_order-2.ensures is);
  by_links = λ is. subst (λ l. IsInOrder (λ (t : PageTitle). t) l) (c.deref-3.ensures.value ∙ ap (λ r. r.links) c.rows.view_is) (c.is_in_order-3.ensures is);
  by_members = λ is.
      subst (λ l. IsInOrder (λ (m : Member). m.category) l) (ap (map member_of) c.deref-4.ensures.value ∙ ap (λ r. r.members) c.rows.view_is)
      (order-triples c.deref-4.result.now (c.is_in_order-4.ensures is));
}
