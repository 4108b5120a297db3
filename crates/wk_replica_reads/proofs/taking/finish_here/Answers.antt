use Rattle.std.proofs.Common.{sym, ◌∙◌}
use Rattle.wk_feed_rules.specs.Lines.{done}
use Rattle.wk_replica_reads.proofs.TakeLaws.{said-runs}
use Rattle.wk_replica_reads.proofs.taking.finish_here.Goals as goal

pub returns-clause-running : goal.returns-clause-running
returns-clause-running c =
    said-runs c.args.replica.now c.finish_going-taken.new.replica (sym c.stopped.ensures ∙ c.if-stopped.false) c.facts.ensures.run c.facts-2.ensures.run (done c.args.ticket) c.finish_going-taken.result c.finish_going-taken.ensures
