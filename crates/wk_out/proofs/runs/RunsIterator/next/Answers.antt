use Rattle.wk_out.proofs.ListedLaws.{boundary-first_listed}
use Rattle.wk_out.proofs.runs.RunsIterator.next.Goals as goal

pub split_at-requires : goal.split_at-requires
split_at-requires c = boundary-first_listed _ _ _ _ c.self.invariant c.in-Some.ensures.cases.0
