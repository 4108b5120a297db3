use Rattle.std.proofs.Common.{◌≡◌, ◌+◌, ◌-◌, IfOk, length, subst, arith}
use Rattle.serde_json.specs.View.{view}
use Rattle.wk_answer_rules.specs.Values.{Entries, reply_beside}
use Rattle.wk_answer.proofs.JobCounts.{site-is}
use Rattle.wk_answer.proofs.counts.site.Goals as goal

pub returns : goal.returns
returns c =
    let next = rw c.revs.ensures at c.next_revision.ensures in
    let jobs : c.in_ok-job_count.field-0 ≡ length c.jobs.result.now.lists.refreshes + length c.jobs.result.now.lists.fans = c.in_ok-job_count.ensures in
    subst (λ (e : Entries). IfOk c.site_info.result (λ v. view v ≡ (reply_beside e c.args.point).value))
    (site-is (record { revisions = c.next_revision.result - 1; jobs = c.in_ok-job_count.field-0; pages = c.existing_count.result }) c.args.live.now.state
    (omega (arith, next)) (rw c.jobs.ensures at jobs) (rw c.revs-2.ensures at c.existing_count.ensures))
    c.site_info.ensures
