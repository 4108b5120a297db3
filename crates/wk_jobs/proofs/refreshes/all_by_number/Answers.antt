use Rattle.std.proofs.Common.{◌≡◌, ◌++◌, map, ap, ◌∙◌, subst, arith, rules}
use Rattle.std.specs.List.Sorted.{IsPermutation}
use Rattle.std.proofs.lemmas.List.{take_all}
use Rattle.std.proofs.lemmas.List.Sorted.{IsNonDecreasingBy-from_sort_by_key}
use Rattle.wk_jobs.specs.Entries.{queued_entry}
use Rattle.wk_jobs.specs.Unclaimed.{unclaimed}
use Rattle.wk_jobs.specs.declared.refreshes.QueuedJob.{QueuedJob}
use Rattle.wk_jobs.proofs.Entries.{listed-more}
use Rattle.wk_jobs.proofs.Sorting.{reopened-entries}
use Rattle.wk_jobs.proofs.refreshes.all_by_number.Goals as goal

pub loop-job-preserved : goal.loop-job-preserved
loop-job-preserved c = record {
  items = rw (c.push_reserved.ensures.items, c.loop-job.invariant.items) (listed-more unclaimed c.args.queued.items c.args.claimed.now c.loop-job.job-index _ c.loop-job-test.true);
  len = omega (arith, c.push_reserved.ensures.len, c.loop-job.invariant.len);
  capacity = c.push_reserved.ensures.capacity ∙ c.loop-job.invariant.capacity;
}

pub returns-clause-jobs : goal.returns-clause-jobs
returns-clause-jobs c =
    let sorted = c.sort_unstable_by_key.new.self.items in
    let all : c.loop-job.jobs.items ≡ c.args.queued.items ++ map unclaimed c.args.claimed.now =
    c.loop-job.invariant.items ∙ ap (λ cs. c.args.queued.items ++ map unclaimed cs) (take_all c.loop-job.job-index c.args.claimed.now c.loop-job-test.false) in
    let up = IsNonDecreasingBy-from_sort_by_key (λ (job : QueuedJob). job.number) sorted c.sort_unstable_by_key.ensures.sorted (λ a r q k. search rules) in
    ap (map queued_entry) c.from_vec.ensures.items
    ∙ reopened-entries c.args.claimed.now c.args.queued.items sorted (subst (λ jobs. IsPermutation jobs sorted) all c.sort_unstable_by_key.ensures.permutation) up c.requires.own
