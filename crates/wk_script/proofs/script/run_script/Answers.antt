use Rattle.std.proofs.Common.{◌∙◌}
use Rattle.wk_script.proofs.Ending.{ended, lost-end, stopped, unbegun-run}
use Rattle.wk_script.proofs.script.run_script.Goals as goal

-- it couldn't begin
pub returns-in_default-clause-run : goal.returns-in_default-clause-run
returns-in_default-clause-run g c =
    unbegun-run g.K.Keeper.told g.K.Keeper.faults c.args.wiki _ _ _ _ c.unbegun.ensures.end c.unbegun.ensures.points c.unbegun.ensures.wiki c.unbegun.ensures.told

-- all lines were answered
pub returns-in-Goes-clause-run : goal.returns-in-Goes-clause-run
returns-in-Goes-clause-run g c =
    ended g.K.Keeper.told g.K.Keeper.faults c.args.wiki _ _ _ _ _ c.report.result.end c.report.result.wiki _ c.report.ensures.end c.in-Goes.ensures.next
    c.report.ensures.wiki c.report.ensures.points

-- it stopped
pub returns-in-Stops-clause-run : goal.returns-in-Stops-clause-run
returns-in-Stops-clause-run g c =
    stopped g.K.Keeper.told g.K.Keeper.faults c.args.wiki _ _ _ _ _ c.in-Stops.stop c.report-in-Stops.result.end c.report-in-Stops.result.wiki _
    (c.report-in-Stops.ensures.end ∙ c.end_of_stop.ensures) c.in-Stops.ensures.next c.report-in-Stops.ensures.wiki c.report-in-Stops.ensures.points

-- a restart didn't open the store
pub returns-in-Lost-clause-run : goal.returns-in-Lost-clause-run
returns-in-Lost-clause-run g c =
    lost-end g.K.Keeper.told g.K.Keeper.faults c.args.wiki c.in-Lost.keeper _ _ _ c.in-Lost.cause c.end_of_cause.result c.end_of_cause.ensures c.in-Lost.ensures.next
