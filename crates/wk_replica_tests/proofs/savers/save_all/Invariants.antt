use Rattle.wk_replica_tests.specs.Ready.{IsReady}
use Rattle.wk_replica_tests.proofs.savers.save_all.Given as goal

abbrev pub invariant-pages : goal.invariant-pages
invariant-pages g l = IsReady l.shared l.pass
