-- A claimed job as one that waits.
use Rattle.wk_jobs.specs.declared.refreshes.ClaimedJob.{ClaimedJob}
use Rattle.wk_jobs.specs.declared.refreshes.QueuedJob.{QueuedJob}

abbrev pub unclaimed : ClaimedJob → QueuedJob
unclaimed job = record { number = job.number; page = job.page }
