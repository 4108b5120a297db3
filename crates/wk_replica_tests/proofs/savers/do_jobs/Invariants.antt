use Rattle.wk_replica_tests.specs.Ready.{IsReady}
use Rattle.wk_replica_tests.proofs.savers.do_jobs.Given as goal

abbrev pub invariant-steps : goal.invariant-steps
invariant-steps g l = IsReady l.shared l.reader.pass
