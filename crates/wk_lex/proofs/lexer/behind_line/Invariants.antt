use Rattle.std.proofs.Common.{◌-◌, ◌≤◌, length}
use Rattle.wk_lex.specs.FirstBytes.{AreInLine}
use Rattle.wk_lex.proofs.lexer.behind_line.Given as goal

abbrev pub invariant-loop-end : goal.invariant-loop-end
invariant-loop-end l = record {
  place : l.from ≤ l.end;
  within : l.end ≤ length l.text;
  line : AreInLine l.text l.from l.end;
}

abbrev pub decreases-loop-end : goal.decreases-loop-end
decreases-loop-end l = length l.text - l.end

abbrev pub invariant-loop-end-2 : goal.invariant-loop-end-2
invariant-loop-end-2 l = record {
  place : l.from ≤ l.end;
  within : l.end ≤ length l.text;
  line : AreInLine l.text l.from l.end;
}

abbrev pub decreases-loop-end-2 : goal.decreases-loop-end-2
decreases-loop-end-2 l = length l.text - l.end
