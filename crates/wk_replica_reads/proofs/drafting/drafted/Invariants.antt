use Rattle.wk_replica_reads.specs.Looks.{HasRead}
use Rattle.wk_replica_reads.proofs.drafting.drafted.Given as goal

abbrev pub invariant-tries : goal.invariant-tries
invariant-tries g l = HasRead l.shared l.fn.pass l.pass
