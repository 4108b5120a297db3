use Rattle.std.proofs.Common.{◌≡◌, ◌∙◌, to_z, of_z, w64, map, ap, rules}
use Rattle.std.specs.List.{flat_map}
use Rattle.std.proofs.lemmas.List.Elements.{All-map}
use Rattle.wk_table_rules.specs.Changes.{with_rows_of}
use Rattle.wk_table_rows.specs.PageTable.{items_of, slot_rows}
use Rattle.wk_table_rows.specs.declared.page_table.Brought.TheVariants.{Changed}
use Rattle.wk_table_rows.proofs.PageTableLaws.{IsByPage-set, pages-set, rows-set}
use Rattle.wk_table_rows.proofs.page_table.set_slot.Goals as goal

pub returns-clause-rows : goal.returns-clause-rows
returns-clause-rows g c =
    let same : to_z w64 (of_z w64 c.args.namespace) ≡ c.args.namespace = search rules in
    rows-set g.R.RowOf.row_of g.R.Numbered.number c.args.slots.now.items c.args.place
    (record { page = c.args.page; rows = Changed (to_z w64 (of_z w64 c.args.namespace)) c.args.items }) c.requires.at c.requires.by_page
    ∙ ap (λ n. with_rows_of g.R.Numbered.number c.args.page (flat_map (slot_rows g.R.RowOf.row_of) c.args.slots.now.items) (map (g.R.RowOf.row_of c.args.page n) (items_of c.args.items))) same

pub returns-clause-pages : goal.returns-clause-pages
returns-clause-pages g c =
    pages-set g.R.RowOf.row_of g.R.Numbered.number c.args.slots.now.items c.args.place
    (record { page = c.args.page; rows = Changed (to_z w64 (of_z w64 c.args.namespace)) c.args.items }) c.requires.at c.requires.by_page

pub returns-clause-by_page : goal.returns-clause-by_page
returns-clause-by_page g c =
    IsByPage-set g.R.RowOf.row_of g.R.Numbered.number c.args.slots.now.items c.args.place
    (record { page = c.args.page; rows = Changed (to_z w64 (of_z w64 c.args.namespace)) c.args.items }) c.requires.at c.requires.by_page
    (All-map (λ r. g.R.Numbered.number r ≡ c.args.page) (g.R.RowOf.row_of c.args.page (to_z w64 (of_z w64 c.args.namespace))) (items_of c.args.items)
    (λ k d l. g.met.R.RowOf.is_of c.args.page (to_z w64 (of_z w64 c.args.namespace)) _))
