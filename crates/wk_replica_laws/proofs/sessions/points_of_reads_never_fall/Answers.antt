use Rattle.wk_replica_laws.proofs.Pointed.{replies_rise}
use Rattle.wk_replica_laws.proofs.sessions.points_of_reads_never_fall.Goals as goal

pub returns : goal.returns
returns c = replies_rise
