use Rattle.std.proofs.Common.{◌≡◌, ◌++◌, map, take}
use Rattle.wk_jobs.specs.Entries.{queued_entry}
use Rattle.wk_jobs.proofs.refreshes.push_queued.Given as goal

abbrev pub invariant-loop-job : goal.invariant-loop-job
invariant-loop-job l = l.jobs.items ≡ l.initial.jobs.items ++ map queued_entry (take l.job-index l.queued)
