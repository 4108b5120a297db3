use Rattle.std.proofs.Common.{◌≡◌, ◌+◌, ◌≤◌, ◌++◌, length, take, vec_len, vec_capacity}
use Rattle.wk_out.proofs.run.add_runs.Given as goal

abbrev pub invariant-loop-run : goal.invariant-loop-run
invariant-loop-run l =
    (l.runs.items ≡ l.initial.runs.items ++ take l.run-index l.others)
    × (vec_len l.runs + length l.others ≤ vec_capacity l.runs + l.run-index)
