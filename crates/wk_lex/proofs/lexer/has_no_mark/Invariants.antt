use Rattle.std.proofs.Common.{◌≡◌, ℕ, ◌-◌, ◌<◌, ◌≤◌, length, drop, get_or}
use Rattle.std.specs.List.{list_any}
use Rattle.wk_lex.specs.Spans.{is_mark, IsPlain}
use Rattle.wk_lex.proofs.lexer.has_no_mark.Given as goal

abbrev pub invariant-loop-at : goal.invariant-loop-at
invariant-loop-at l = record {
  within : l.at ≤ length l.text;
  marks : list_any is_mark l.text ≡ list_any is_mark (drop l.at l.text);
  plain : (i : ℕ) → i < l.at → IsPlain (get_or l.text i 0);
}

abbrev pub decreases-loop-at : goal.decreases-loop-at
decreases-loop-at l = length l.text - l.at
