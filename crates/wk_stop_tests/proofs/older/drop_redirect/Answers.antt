use Rattle.sqlite.proofs.Callers.{memory_is_clean}
use Rattle.sqlite.specs.Held.{state}
use Rattle.sqlite.specs.Steps.{over_memory}
use Rattle.wk_stop_tests.proofs.Drops.{runs_dropped}
use Rattle.wk_stop_tests.proofs.older.drop_redirect.Goals as goal

pub returns-in-Ok-clause-dropped : goal.returns-in-Ok-clause-dropped
returns-in-Ok-clause-dropped c tables holds =
    let old = state over_memory c.args.transaction.now.conn.now in
    let new = state over_memory c.execute.new.self.conn.now in
    runs_dropped old new _ (c.in-Ok.ensures.runs (memory_is_clean c.execute.new.self.conn.now) holds.inside) tables holds
