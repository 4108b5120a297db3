use Rattle.std.proofs.Common.{◌≡◌, ◌+◌, drop, map}
use Rattle.wk_tables.specs.Edits.{edit_of}
use Rattle.wk_tables.specs.Room.{room_for}
use Rattle.wk_tables.proofs.change.Change.room.Given as goal

abbrev pub invariant-loop-edit : goal.invariant-loop-edit
invariant-loop-edit l = l.room + room_for (map edit_of (drop l.edit-index l.edit-items)) ≡ room_for (map edit_of l.edit-items)
