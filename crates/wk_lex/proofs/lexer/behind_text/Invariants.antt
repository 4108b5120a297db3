use Rattle.std.proofs.Common.{◌≡◌, ◌-◌, ◌+◌, ◌<◌, ◌≤◌, true, length, get_or}
use Rattle.wk_lex.specs.Ahead.{AreBytes}
use Rattle.wk_lex.specs.FirstBytes.{ends_line}
use Rattle.wk_lex.specs.Spans.{IsAtomAt}
use Rattle.wk_tree_rules.specs.declared.AtomKind.TheVariants.{Byte}
use Rattle.wk_tree_rules.specs.declared.Mode.{Mode}
use Rattle.wk_lex.proofs.lexer.behind_text.Given as goal

abbrev pub invariant-loop-end : goal.invariant-loop-end
invariant-loop-end l = record {
  place : l.at ≤ l.end;
  within : l.end ≤ length l.text;
  ends : l.end < length l.text → ends_line (get_or l.text l.end 0) ≡ true;
  bytes : (mode : Mode) → IsAtomAt mode l.text l.at (Byte, l.at + 1) → l.at < l.end → AreBytes mode l.text l.at l.end;
}

abbrev pub decreases-loop-end : goal.decreases-loop-end
decreases-loop-end l = length l.text - l.end
