use Rattle.std.proofs.Common.{◌≡◌, ◌≤◌, drop, length}
use Rattle.wk_tree.specs.Layout.{laid}
use Rattle.wk_tree.proofs.layout.fill_before.Given as goal

abbrev pub invariant-loop-at : goal.invariant-loop-at
invariant-loop-at l = record {
  before : l.at ≤ l.end;
  within : l.at ≤ length l.tokens;
  laid : laid (drop l.at l.tokens) ≡ laid (drop l.end l.tokens);
}

abbrev pub decreases-loop-at : goal.decreases-loop-at
decreases-loop-at l = l.at
