use Rattle.std.proofs.Common.{◌≡◌, ◌-◌, ◌≤◌, length}
use Rattle.wk_lex.specs.Spans.{IsRow}
use Rattle.wk_lex.proofs.AtomSteps.{AreFound}
use Rattle.wk_lex.proofs.atoms.lex.Given as goal

abbrev pub invariant-loop-at : goal.invariant-loop-at
invariant-loop-at l = record {
  text : l.tags ≡ l.selected;
  within : l.at ≤ length l.selected;
  row : IsRow 0 l.at l.found.items;
  atoms : AreFound l.mode l.selected l.found.items l.at;
}

abbrev pub decreases-loop-at : goal.decreases-loop-at
decreases-loop-at l = length l.selected - l.at
