use Rattle.std.proofs.Common.{◌≡◌, ◌∙◌, to_z, of_z, w64, eqb, length, map, ap, sym, subst, arith, rules}
use Rattle.std.specs.Prelude.{IfSome, Some}
use Rattle.std.specs.List.{position}
use Rattle.wk_table_rules.specs.Changes.{with_rows_of}
use Rattle.wk_table_rows.specs.PageTable.{KeepsTable, items_of, pages_held, rows_held}
use Rattle.wk_table_rows.specs.declared.page_table.Form.TheVariants.{ByPage}
use Rattle.wk_table_rows.proofs.NumberLaws.{position-map}
use Rattle.wk_table_rows.proofs.page_table.set_form.Goals as goal

pub set_slot-requires-clause-by_page : goal.set_slot-requires-clause-by_page
set_slot-requires-clause-by_page g c = (subst (λ f. KeepsTable g.R.RowOf.row_of g.R.Numbered.number f (length (items_of c.args.items))) c.in-ByPage.is c.requires.room).1

pub set_slot-requires-clause-at : goal.set_slot-requires-clause-at
set_slot-requires-clause-at g c =
    sym (position-map (λ s. s.page) (λ n. eqb n c.args.page) c.in-ByPage.slots.items)
    ∙ subst (λ f. IfSome (pages_held f) (λ pages. position (λ other. eqb other c.args.page) pages ≡ Some c.args.place)) c.in-ByPage.is c.requires.at

pub returns-in-ByPage-clause-rows : goal.returns-in-ByPage-clause-rows
returns-in-ByPage-clause-rows g c =
    let same : to_z w64 (of_z w64 c.args.namespace) ≡ c.args.namespace = search rules in
    c.set_slot.ensures.rows
    ∙ ap (λ n. with_rows_of g.R.Numbered.number c.args.page (rows_held g.R.RowOf.row_of (ByPage c.in-ByPage.slots)) (map (g.R.RowOf.row_of c.args.page n) (items_of c.args.items))) same
    ∙ ap (λ f. with_rows_of g.R.Numbered.number c.args.page (rows_held g.R.RowOf.row_of f) (map (g.R.RowOf.row_of c.args.page c.args.namespace) (items_of c.args.items))) (sym c.in-ByPage.is)

pub returns-in-ByPage-clause-pages : goal.returns-in-ByPage-clause-pages
returns-in-ByPage-clause-pages g c = ap (λ pages. Some pages) c.set_slot.ensures.pages ∙ ap pages_held (sym c.in-ByPage.is)

pub returns-in-ByPage-clause-kept : goal.returns-in-ByPage-clause-kept
returns-in-ByPage-clause-kept g c n m le keeps =
    let kept = subst (λ f. KeepsTable g.R.RowOf.row_of g.R.Numbered.number f m) c.in-ByPage.is keeps in
    (omega (arith, le, kept.0, c.set_slot.ensures.len, c.set_slot.ensures.capacity), c.set_slot.ensures.by_page)

pub returns-in-InRows-clause-kept : goal.returns-in-InRows-clause-kept
returns-in-InRows-clause-kept g c n m le keeps =
    let kept = subst (λ f. KeepsTable g.R.RowOf.row_of g.R.Numbered.number f m) c.in-InRows.is keeps in
    omega (arith, le, kept, c.set_in_rows.ensures.len, c.set_in_rows.ensures.capacity)
