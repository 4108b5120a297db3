use Rattle.std.proofs.Common.{◌≡◌, drop, take, length}
use Rattle.wk_tree.specs.Matching.{plained}
use Rattle.wk_tree.proofs.matching.plain_bars.Given as goal

abbrev pub invariant-loop-bars : goal.invariant-loop-bars
invariant-loop-bars l = record {
  tokens : plained (drop l.kept l.bars.items) l.tokens.items ≡ plained (drop l.kept l.fn.bars.items) l.fn.tokens.items;
  bars : take l.kept l.bars.items ≡ take l.kept l.fn.bars.items;
}

abbrev pub decreases-loop-bars : goal.decreases-loop-bars
decreases-loop-bars l = length l.bars.items
