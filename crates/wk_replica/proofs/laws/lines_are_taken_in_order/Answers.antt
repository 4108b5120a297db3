use Rattle.wk_replica.proofs.FedFacts.{line-bad, line-more, lines-told}
use Rattle.wk_replica.proofs.laws.lines_are_taken_in_order.Goals as goal

pub returns-clause-more : goal.returns-clause-more
returns-clause-more c = line-more

pub returns-clause-bad : goal.returns-clause-bad
returns-clause-bad c = line-bad

pub returns-clause-replica : goal.returns-clause-replica
returns-clause-replica c = lines-told
