use Rattle.std.proofs.Common.{length, ◌-◌, ◌≡◌, ◌+◌, ◌≤◌, drop}
use Rattle.std.specs.List.{prefix_len}
use Rattle.wk_text_rules.specs.Titles.{is_reference_character}
use Rattle.wk_title.proofs.legal.reference_length.Given as goal

abbrev pub invariant-loop-end : goal.invariant-loop-end
invariant-loop-end l =
    (l.end ≤ length l.cs)
    × (l.end + prefix_len is_reference_character (drop l.end l.cs) ≡ prefix_len is_reference_character l.cs)

abbrev pub decreases-loop-end : goal.decreases-loop-end
decreases-loop-end l = length l.cs - l.end
