use Rattle.std.proofs.Common.{◌≡◌, ◌+◌, ◌-◌, ◌≤◌, length, drop}
use Rattle.std.specs.List.{prefix_len}
use Rattle.wk_decimal.specs.Digits.{is_zero}
use Rattle.wk_decimal.proofs.numeral.without_leading_zeros.Given as goal

abbrev pub invariant-loop-start : goal.invariant-loop-start
invariant-loop-start l =
    (l.start ≤ length l.digits) × (l.start + prefix_len is_zero (drop l.start l.digits) ≡ prefix_len is_zero l.digits)

abbrev pub decreases-loop-start : goal.decreases-loop-start
decreases-loop-start l = length l.digits - l.start
