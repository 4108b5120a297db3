use Rattle.std.proofs.Common.{IsSome}
use Rattle.wk_replica_reads.specs.Looks.{IsFree}
use Rattle.wk_replica_bench.proofs.workers.take_all.Given as goal

abbrev pub invariant-lines : goal.invariant-lines
invariant-lines g l = IsFree l.shared l.worker.pass × IsSome l.shared.start.line
