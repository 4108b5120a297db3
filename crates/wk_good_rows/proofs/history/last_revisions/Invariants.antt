use Rattle.std.proofs.Common.{take}
use Rattle.wk_good_rows.specs.Last.{AreLast}
use Rattle.wk_good_rows.proofs.history.last_revisions.Given as goal

abbrev pub invariant-loop-i : goal.invariant-loop-i
invariant-loop-i l = AreLast l.last.items (take l.i l.revisions) l.pages
