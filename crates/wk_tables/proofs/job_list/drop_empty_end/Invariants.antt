use Rattle.std.proofs.Common.{◌≡◌, ◌≤◌, Bool, vec_len, vec_capacity}
use Rattle.wk_tables.specs.Jobs.{KeepsJobs, rows_in}
use Rattle.wk_tables.proofs.job_list.drop_empty_end.Given as goal

abbrev pub invariant-loop-last : goal.invariant-loop-last
invariant-loop-last l =
    (rows_in l.slots.items ≡ rows_in l.initial.slots.items)
    × ((is_in_order : Bool) → KeepsJobs l.initial.slots.items is_in_order → KeepsJobs l.slots.items is_in_order)
    × (vec_len l.slots ≤ vec_len l.initial.slots) × (vec_capacity l.slots ≡ vec_capacity l.initial.slots)

abbrev pub decreases-loop-last : goal.decreases-loop-last
decreases-loop-last l = vec_len l.slots
