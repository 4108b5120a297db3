use Rattle.std.proofs.Common.{◌≡◌, ◌++◌, take}
use Rattle.std.specs.List.{flat_map}
use Rattle.wk_table_rows.specs.PageTable.{slot_rows}
use Rattle.wk_table_rows.proofs.page_table.push_slots.Given as goal

abbrev pub invariant-loop-slot : goal.invariant-loop-slot
invariant-loop-slot g l = l.out.items ≡ l.initial.out.items ++ flat_map (slot_rows g.R.RowOf.row_of) (take l.slot-index l.slots)
