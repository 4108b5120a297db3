use Rattle.std.proofs.Common.{sym, ◌∙◌}
use Rattle.wk_replica_reads.proofs.TakeLaws.{line-runs}
use Rattle.wk_replica_reads.proofs.taking.take_here.Goals as goal

pub returns-clause-running : goal.returns-clause-running
returns-clause-running c =
    line-runs c.args.replica.now c.take-taken.new.self (sym c.stopped.ensures ∙ c.if-stopped.false) c.facts.ensures.run c.facts-2.ensures.run c.args.line.now c.take-taken.result c.take-taken.ensures
