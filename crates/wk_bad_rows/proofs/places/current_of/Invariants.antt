use Rattle.std.proofs.Common.{◌≡◌, take}
use Rattle.wk_table_rules.specs.GoodStore.{current_of}
use Rattle.wk_bad_rows.proofs.places.current_of.Given as goal

abbrev pub invariant-loop-i : goal.invariant-loop-i
invariant-loop-i l = l.current ≡ current_of (take l.i l.revisions) l.page
