use Rattle.std.proofs.Common.{map, take}
use Rattle.wk_tables.specs.Edits.{edit_of}
use Rattle.wk_sqlmemory.specs.Told.{AreEditsInRange}
use Rattle.wk_sqlmemory.proofs.ranges.edits_are_in_range.Given as goal

abbrev pub invariant-edits : goal.invariant-edits
invariant-edits l = AreEditsInRange (map edit_of (take l.edit-index l.edits))
