use Rattle.std.proofs.Common.{◌≡◌, map}
use Rattle.wk_tables.specs.Jobs.{slot_of}
use Rattle.wk_tables.proofs.job_list.slots_of.Given as goal

abbrev pub invariant-loop-row : goal.invariant-loop-row
invariant-loop-row l = l.slots.items ≡ map slot_of l.yielded
