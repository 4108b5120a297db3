use Rattle.wk_jobs.specs.Entries.{queued_entry}
use Rattle.wk_jobs.proofs.Entries.{listed-more}
use Rattle.wk_jobs.proofs.refreshes.push_queued.Goals as goal

pub loop-job-preserved : goal.loop-job-preserved
loop-job-preserved c = rw (c.in_ok-push.ensures.items, c.loop-job.invariant, c.queued_job.ensures) (listed-more queued_entry c.args.jobs.now.items c.args.queued.now c.loop-job.job-index _ c.loop-job-test.true)
