use Rattle.std.proofs.Common.{◌∙◌, map, ap, sym, subst}
use Rattle.wk_page_rules.specs.PageRows.{Member}
use Rattle.wk_table_rows.specs.Members.{member_of}
use Rattle.wk_index.specs.InOrder.{IsInOrder}
use Rattle.wk_index.proofs.EntryLaws.{entries-of}
use Rattle.wk_index.proofs.OrderLaws.{order-triples_back}
use Rattle.wk_index.proofs.lookup.Lookup.has_entry.Goals as goal

pub has_entry-requires : goal.has_entry-requires
has_entry-requires c = λ is.
    order-triples_back c.deref.result.now
    (subst (λ l. IsInOrder (λ (m : Member). m.category) l) (sym (ap (map member_of) c.deref.ensures.value ∙ ap (λ r. r.members) c.rows.view_is)) (c.self.invariant.by_members is))

pub returns : goal.returns
returns c =
    c.has_entry.ensures
    ∙ sym (entries-of c.deref.result.now c.args.self.now (c.args.category.now, c.args.sortkey.now)
    (sym (ap (λ r. r.members) c.self.view_is) ∙ sym (ap (λ r. r.members) c.rows.view_is) ∙ ap (map member_of) (sym c.deref.ensures.value)))
