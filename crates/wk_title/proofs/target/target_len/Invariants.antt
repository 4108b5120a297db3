use Rattle.std.proofs.Common.{length, ◌≡◌, ◌+◌, ◌-◌, ◌≤◌, drop}
use Rattle.std.specs.List.{prefix_len}
use Rattle.wk_text_rules.specs.Targets.{is_target_byte}
use Rattle.wk_title.proofs.target.target_len.Given as goal

abbrev pub invariant-loop-len : goal.invariant-loop-len
invariant-loop-len l =
    (l.len ≤ length l.inside)
    × (l.len + prefix_len is_target_byte (drop l.len l.inside) ≡ prefix_len is_target_byte l.inside)

abbrev pub decreases-loop-len : goal.decreases-loop-len
decreases-loop-len l = length l.inside - l.len
