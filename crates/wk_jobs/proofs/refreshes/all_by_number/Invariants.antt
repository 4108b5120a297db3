use Rattle.std.proofs.Common.{◌≡◌, ◌+◌, ◌++◌, map, take, vec_len, vec_capacity}
use Rattle.std.specs.VecDeque.{deque_len, deque_capacity}
use Rattle.wk_jobs.specs.Unclaimed.{unclaimed}
use Rattle.wk_jobs.proofs.refreshes.all_by_number.Given as goal

abbrev pub invariant-loop-job : goal.invariant-loop-job
invariant-loop-job l = record {
  items : l.jobs.items ≡ l.fn.queued.items ++ map unclaimed (take l.job-index l.claimed);
  len : vec_len l.jobs ≡ deque_len l.fn.queued + l.job-index;
  capacity : vec_capacity l.jobs ≡ deque_capacity l.fn.queued;
}
