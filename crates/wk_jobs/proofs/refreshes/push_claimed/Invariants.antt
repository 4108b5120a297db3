use Rattle.std.proofs.Common.{◌≡◌, ◌++◌, map, take}
use Rattle.wk_jobs.specs.Entries.{claimed_entry}
use Rattle.wk_jobs.proofs.refreshes.push_claimed.Given as goal

abbrev pub invariant-loop-job : goal.invariant-loop-job
invariant-loop-job l = l.jobs.items ≡ l.initial.jobs.items ++ map claimed_entry (take l.job-index l.claimed)
