use Rattle.wk_replica.proofs.FedFacts.{at-point}
use Rattle.wk_replica.proofs.laws.a_replica_is_at_a_point_of_its_feed.Goals as goal

pub returns : goal.returns
returns c = at-point
