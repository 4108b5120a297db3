use Rattle.std.proofs.Common.{◌≡◌, ◌∙◌, [], map, sym, ap, subst, rules}
use Rattle.std.specs.List.{flat_map}
use Rattle.wk_table_rows.specs.PageTable.{IsByPage, slot_rows}
use Rattle.wk_table_rows.proofs.PageTableLaws.{IsByPage-push, rows-push}
use Rattle.wk_table_rows.proofs.page_table.push_slot.Goals as goal

pub returns-clause-rows : goal.returns-clause-rows
returns-clause-rows g c =
    ap (flat_map (slot_rows g.R.RowOf.row_of)) c.push_reserved.ensures.items ∙ rows-push g.R.RowOf.row_of g.R.Numbered.number c.args.slots.now.items _ (search rules)

pub returns-clause-kept : goal.returns-clause-kept
returns-clause-kept g c above keeps =
    subst (IsByPage g.R.RowOf.row_of g.R.Numbered.number) (sym c.push_reserved.ensures.items)
    (IsByPage-push g.R.RowOf.row_of g.R.Numbered.number c.args.slots.now.items _ (search rules) above keeps)
