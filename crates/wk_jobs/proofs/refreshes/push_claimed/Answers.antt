use Rattle.wk_jobs.specs.Entries.{claimed_entry}
use Rattle.wk_jobs.proofs.Entries.{listed-more}
use Rattle.wk_jobs.proofs.refreshes.push_claimed.Goals as goal

pub loop-job-preserved : goal.loop-job-preserved
loop-job-preserved c = rw (c.in_ok-push.ensures.items, c.loop-job.invariant, c.claimed_job.ensures) (listed-more claimed_entry c.args.jobs.now.items c.args.claimed.now c.loop-job.job-index _ c.loop-job-test.true)
