use Rattle.std.proofs.Common.{length, ◌≡◌}
use Rattle.wk_text_rules.specs.Titles.{holds}
use Rattle.wk_title.specs.Legal.{begins_with_forbidden_text}
use Rattle.wk_title.proofs.legal.holds_forbidden_text.Given as goal

abbrev pub invariant-loop-cs : goal.invariant-loop-cs
invariant-loop-cs l = holds begins_with_forbidden_text l.cs ≡ holds begins_with_forbidden_text l.fn.cs

abbrev pub decreases-loop-cs : goal.decreases-loop-cs
decreases-loop-cs l = length l.cs
