use Rattle.std.proofs.Common.{◌≤◌, drop, length}
use Rattle.wk_tree.specs.Layout.{IsLayout, laid}
use Rattle.wk_tree.proofs.layout.lay.Given as goal

abbrev pub invariant-loop-at : goal.invariant-loop-at
invariant-loop-at l = record {
  laid : IsLayout l.layout (laid (drop l.at l.tokens));
  within : l.at ≤ length l.tokens;
}

abbrev pub decreases-loop-at : goal.decreases-loop-at
decreases-loop-at l = l.at
