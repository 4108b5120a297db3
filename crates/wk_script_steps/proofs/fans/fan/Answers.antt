use Rattle.std.proofs.Common.{length}
use Rattle.wk_script_steps.specs.Outcomes.{fan_reply}
use Rattle.wk_script_steps.proofs.ByOutcomes.{fan-answered}
use Rattle.wk_script_steps.proofs.Calls.{shows-at}
use Rattle.wk_script_steps.proofs.fans.fan.Goals as goal

pub returns : goal.returns
returns g c =
    let told = c.fan-answer.ensures in
    let new = c.fan-answer.new.self in
    fan-answered g.K.Keeper.told g.K.Keeper.faults c.args.wiki.now new c.args.tickets.now.items c.facts.ensures.run c.requires.holds told.keeper c.told_fan.result c.fan-answer.result
    told.fanned told.event told.none told.room told.full told.refused told.failed told.fault
    (shows-at c.point.result (length new.journal) (fan_reply c.fan-answer.result) c.told_fan.result c.point.ensures c.told_fan.ensures)
