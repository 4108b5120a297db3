use Rattle.std.proofs.Common.{◌-◌, ◌≤◌}
use Rattle.wk_tree.specs.Matching.{as_run, IsKept, IsClosing}
use Rattle.wk_tree_laws.specs.OnePass.{PassState, closed}
use Rattle.wk_tree.proofs.matching.close.Given as goal

abbrev pub invariant-loop-time : goal.invariant-loop-time
invariant-loop-time l = (seen : PassState) → IsKept seen l.fn.matching → 2 ≤ l.fn.run.count → l.fn.run.count ≤ l.fn.run.end
    → IsClosing l.left l.matching (l.fn.run.count - l._time) (closed l.fn.run.count (as_run l.fn.run) seen)
