use Rattle.std.proofs.Common.{◌≡◌, ◌≤◌, true, map}
use Rattle.std.specs.Vec.Iter.{into_iter_items}
use Rattle.wk_table_rules.specs.Changes.{applied, fits}
use Rattle.wk_tables.specs.Edits.{edit_of}
use Rattle.wk_tables.specs.Room.{room_for}
use Rattle.wk_tables.proofs.tables.apply.Given as goal

abbrev pub invariant-loop-edit : goal.invariant-loop-edit
invariant-loop-edit l =
    let rest = map edit_of (into_iter_items l.edit-iterator) in
    (fits l.tables.tables rest ≡ true) × (room_for rest ≤ l.tables.spare) × (applied l.tables.tables rest ≡ applied l.initial.tables.tables (map edit_of (into_iter_items l.initial.edit-iterator)))
