use Rattle.wk_bytes.specs.Line.{line_in}
use Rattle.wk_script.proofs.Going.{restart-behind}
use Rattle.wk_script.proofs.run.serve_last.Goals as goal

-- a restart
pub returns-in-Restarts-clause-next : goal.returns-in-Restarts-clause-next
returns-in-Restarts-clause-next g c =
    restart-behind g.K.Keeper.told g.K.Keeper.faults c.args.run _ (line_in c.args.line.now) _ _ _ _ _ c.restart.result c.in-Restarts.ensures.served c.restart.ensures.next
