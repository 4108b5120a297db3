use Rattle.std.proofs.Common.{length}
use Rattle.serde_json.specs.View.{view}
use Rattle.wk_request.specs.Asked.{request_asked}
use Rattle.wk_answer_rules.specs.Answers.{answer_to_request}
use Rattle.wk_complete_laws.proofs.Answering.{acted-event, acted-start, acted-value}
use Rattle.wk_complete_laws.proofs.Completing.{no-rise, still-whole}
use Rattle.wk_complete_laws.proofs.requests.requests_are_told_by_the_rules.Goals as goal

pub returns-clause-told : goal.returns-clause-told
returns-clause-told g c =
    let wiki = c.args.wiki.now in
    acted-value g.K.Keeper.told g.K.Keeper.faults wiki c.act.new.wiki view (answer_to_request wiki.start.limits wiki.state (length wiki.journal) c.args.now (request_asked c.args.request.now)) c.act.result
    (no-rise g.K.Keeper.told g.K.Keeper.faults wiki c.act.new.wiki c.requires.whole c.act.ensures.keeper) c.act.ensures.acted

pub returns-clause-event : goal.returns-clause-event
returns-clause-event g c =
    let wiki = c.args.wiki.now in
    acted-event g.K.Keeper.told g.K.Keeper.faults wiki c.act.new.wiki view (answer_to_request wiki.start.limits wiki.state (length wiki.journal) c.args.now (request_asked c.args.request.now)) c.act.result
    (no-rise g.K.Keeper.told g.K.Keeper.faults wiki c.act.new.wiki c.requires.whole c.act.ensures.keeper) c.act.ensures.acted

pub returns-clause-whole : goal.returns-clause-whole
returns-clause-whole g c =
    let wiki = c.args.wiki.now in
    still-whole g.K.Keeper.told g.K.Keeper.faults wiki c.act.new.wiki
    (acted-start g.K.Keeper.told g.K.Keeper.faults wiki c.act.new.wiki (answer_to_request wiki.start.limits wiki.state (length wiki.journal) c.args.now (request_asked c.args.request.now)).event c.act.result
    (returns-clause-event g c) c.act.ensures.memory) c.requires.whole c.act.ensures.keeper
