use Rattle.std.proofs.Common.{sym, ◌∙◌}
use Rattle.wk_feed_lines.specs.Said.{line_of}
use Rattle.wk_replica_reads.proofs.TakeLaws.{said-runs}
use Rattle.wk_replica_reads.proofs.taking.take_said_here.Goals as goal

pub returns-clause-running : goal.returns-clause-running
returns-clause-running c =
    said-runs c.args.replica.now c.take_said-taken.new.self (sym c.stopped.ensures ∙ c.if-stopped.false) c.facts.ensures.run c.facts-2.ensures.run (line_of c.args.said) c.take_said-taken.result c.take_said-taken.ensures
