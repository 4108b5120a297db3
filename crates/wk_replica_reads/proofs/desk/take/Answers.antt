use Rattle.wk_replica_reads.proofs.desk.take.Goals as goal

pub returns-clause-taken : goal.returns-clause-taken
returns-clause-taken g c = record { pass = c.enter.ensures.pass; start = c.enter.ensures.start; seen = c.enter.ensures.seen }
