use Rattle.std.proofs.Common.{length, ap, arith}
use Rattle.wk_tables.proofs.job_list.JobList.compact.Goals as goal

pub invariant_of-self : goal.invariant_of-self
invariant_of-self c = (
  c.drop_empty.ensures.keeps c.self.inside.is_in_order c.self.invariant.0,
  omega (arith, c.self.invariant.1, c.drop_empty.ensures.len, c.drop_empty.ensures.capacity),
  omega (arith, c.drop_empty.ensures.none),
)
