use Rattle.std.proofs.Common.{◌+◌, ◌≡◌, ℕ, List, ◌++◌, length}
use Rattle.std.specs.Prelude.{◌==◌, count_by}
use Rattle.wk_text_rules.specs.Lines.{lines}
use Rattle.wk_bytes.specs.LineCutter.{lines_of}
use Rattle.wk_bytes.proofs.lines.cut_whole.Given as goal

abbrev pub invariant-loop-part : goal.invariant-loop-part
invariant-loop-part l = record {
  lines : (more : List ℕ) →
      lines_of l.whole.items ++ lines l.most (l.left ++ more) ≡ lines_of l.fn.whole.items ++ lines l.most (l.bytes ++ more);
  count : length l.whole.items + count_by (λ b. b == 10) l.left ≡ length l.fn.whole.items + count_by (λ b. b == 10) l.bytes;
}

abbrev pub decreases-loop-part : goal.decreases-loop-part
decreases-loop-part l = length l.left
