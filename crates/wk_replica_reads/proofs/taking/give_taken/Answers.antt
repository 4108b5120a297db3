use Rattle.wk_replica_reads.proofs.TakeLaws.{closes-none}
use Rattle.wk_replica_reads.proofs.taking.give_taken.Goals as goal

pub leave-requires-clause-closes : goal.leave-requires-clause-closes
leave-requires-clause-closes c = closes-none c.args.held.before.value.journal c.args.held.value.journal c.args.pass.now.own
