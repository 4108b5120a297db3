use Rattle.std.proofs.Common.{All}
use Rattle.wk_replica_reads.specs.Looks.{IsFree}
use Rattle.wk_replica_bench.proofs.shares.hired.Given as goal

abbrev pub invariant-hiring : goal.invariant-hiring
invariant-hiring l = IsFree l.shared l.pass × All (λ w. IsFree l.shared w.pass) l.workers.items
