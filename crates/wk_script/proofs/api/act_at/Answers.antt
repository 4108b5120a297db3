use Rattle.wk_request.specs.Asked.{request_asked}
use Rattle.wk_request_rules.specs.Requests.{valid}
use Rattle.wk_script.proofs.Acting.{acted, starved}
use Rattle.wk_script.proofs.api.act_at.Goals as goal

pub returns-in-Ok : goal.returns-in-Ok
returns-in-Ok g c = λ drafts holds.
    acted g.K.Keeper.told g.K.Keeper.faults c.args.wiki.now c.act.new.wiki drafts c.args.moment (valid (request_asked c.args.request.now))
    c.facts.ensures.run holds c.act.ensures.keeper c.in-Ok.value c.in-Ok.ensures.acted

pub returns-in-Err : goal.returns-in-Err
returns-in-Err g c = λ drafts holds.
    starved g.K.Keeper.told g.K.Keeper.faults c.args.wiki.now c.act.new.wiki drafts c.args.moment (valid (request_asked c.args.request.now))
    c.facts.ensures.run holds c.act.ensures.keeper c.point.result c.no_memory.result c.in-Err.ensures.memory c.point.ensures c.no_memory.ensures
