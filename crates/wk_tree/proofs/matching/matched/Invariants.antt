use Rattle.std.proofs.Common.{◌≡◌, length}
use Rattle.wk_tree.proofs.AtomLemmas.{AreMatched}
use Rattle.wk_tree.proofs.matching.matched.Given as goal

abbrev pub invariant-loop-atom : goal.invariant-loop-atom
invariant-loop-atom l = record {
  text : l.ahead.text ≡ l.text;
  matched : AreMatched l.fn.atoms.atoms l.ahead.atoms l.matching;
}

abbrev pub decreases-loop-atom : goal.decreases-loop-atom
decreases-loop-atom l = length l.ahead.atoms
