use Rattle.std.proofs.Common.{◌≡◌, take}
use Rattle.wk_tables.specs.Jobs.{rows_in}
use Rattle.wk_tables.proofs.job_list.JobList.rows.Given as goal

abbrev pub invariant-loop-slot : goal.invariant-loop-slot
invariant-loop-slot l = l.rows.items ≡ rows_in (take l.slot-index l.slot-items)
