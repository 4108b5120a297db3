use Rattle.std.proofs.Common.{◌-◌, ◌≤◌, length}
use Rattle.wk_lex.proofs.PartSteps.{AreJoined}
use Rattle.wk_lex.proofs.selection.joined_parts.Given as goal

abbrev pub invariant-loop-start : goal.invariant-loop-start
invariant-loop-start l = record {
  within : l.at ≤ length l.text;
  joined : AreJoined l.text l.joined.items l.at;
}

abbrev pub decreases-loop-start : goal.decreases-loop-start
decreases-loop-start l = length l.text - l.at
