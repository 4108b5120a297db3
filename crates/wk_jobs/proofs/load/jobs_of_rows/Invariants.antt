use Rattle.std.proofs.Common.{◌≡◌}
use Rattle.wk_jobs.specs.Loaded.{jobs_so_far}
use Rattle.wk_jobs.proofs.load.jobs_of_rows.Given as goal

abbrev pub invariant-rows : goal.invariant-rows
invariant-rows l = l.jobs.lists ≡ jobs_so_far l.tables.tables l.row-index
