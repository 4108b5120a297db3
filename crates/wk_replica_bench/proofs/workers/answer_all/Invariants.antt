use Rattle.wk_replica_reads.specs.Looks.{IsFree}
use Rattle.wk_replica_bench.proofs.workers.answer_all.Given as goal

abbrev pub invariant-requests : goal.invariant-requests
invariant-requests g l = IsFree l.shared l.worker.pass
