use Rattle.std.proofs.Common.{length, ◌-◌, ◌≡◌, ◌+◌, ◌≤◌, drop}
use Rattle.std.specs.List.{prefix_len}
use Rattle.wk_text_rules.specs.Titles.{is_underscore}
use Rattle.wk_title.proofs.characters.without_leading_underscores.Given as goal

abbrev pub invariant-loop-start : goal.invariant-loop-start
invariant-loop-start l =
    (l.start ≤ length l.cs)
    × (l.start + prefix_len is_underscore (drop l.start l.cs) ≡ prefix_len is_underscore l.cs)

abbrev pub decreases-loop-start : goal.decreases-loop-start
decreases-loop-start l = length l.cs - l.start
