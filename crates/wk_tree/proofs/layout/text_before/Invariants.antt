use Rattle.std.proofs.Common.{◌≡◌, ◌≤◌, drop, length}
use Rattle.wk_tree.specs.Layout.{LayoutShown, with_token, laid}
use Rattle.wk_tree.specs.declared.token.Token.TheVariants.{Plain}
use Rattle.wk_tree.proofs.layout.text_before.Given as goal

abbrev pub invariant-loop-at : goal.invariant-loop-at
invariant-loop-at l = record {
  before : l.at ≤ l.end;
  within : l.at ≤ length l.tokens;
  laid : (behind : LayoutShown) → laid (drop l.end l.tokens) ≡ with_token (Plain l.start l.len) behind → laid (drop l.at l.tokens) ≡ with_token (Plain l.first l.total) behind;
}

abbrev pub decreases-loop-at : goal.decreases-loop-at
decreases-loop-at l = l.at
