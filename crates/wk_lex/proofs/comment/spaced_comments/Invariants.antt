use Rattle.std.proofs.Common.{◌≡◌, ℕ, ◌-◌, ◌<◌, ◌≤◌, length, drop}
use Rattle.wk_text_rules.specs.Shapes.{one_or_more, repeated}
use Rattle.wk_lex.specs.Parts.{spaced_comment}
use Rattle.wk_lex.proofs.comment.spaced_comments.Given as goal

-- as many comments as are left to be looked for, of which the text that is left has room for no more
abbrev pub invariant-loop-next : goal.invariant-loop-next
invariant-loop-next l = record {
  behind : l.at < l.end;
  within : l.end ≤ length l.text;
  left : (n : ℕ) × (length l.text - l.end ≤ n) × (one_or_more spaced_comment (drop l.at l.text) ≡ repeated n spaced_comment (drop l.end l.text));
}

abbrev pub decreases-loop-next : goal.decreases-loop-next
decreases-loop-next l = length l.text - l.end
