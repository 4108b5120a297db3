use Rattle.std.proofs.Common.{take}
use Rattle.wk_table_rules.specs.GoodStore.{has_good_parent}
use Rattle.wk_good_rows.specs.Judged.{Judged}
use Rattle.wk_good_rows.specs.Last.{AreLast}
use Rattle.wk_good_rows.proofs.history.bad_parent.Given as goal

abbrev pub invariant-loop-i : goal.invariant-loop-i
invariant-loop-i l = Judged has_good_parent l.revisions l.i × AreLast l.last.items (take l.i l.revisions) l.pages
