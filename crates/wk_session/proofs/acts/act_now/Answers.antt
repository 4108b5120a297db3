use Rattle.std.proofs.Common.{[], ◌∷◌, ap, ◌∙◌}
use Rattle.wk_wiki_rules.specs.Starts.{Start}
use Rattle.wk_request.specs.Asked.{request_asked}
use Rattle.wk_request_rules.specs.Requests.{valid}
use Rattle.wk_shared.specs.Calls.{MayFail}
use Rattle.wk_shared.proofs.Made.{has-seen, is-made}
use Rattle.wk_session.proofs.Acting.{ActTold, NothingTold, acted-makes, acted-on, one-moment, starved, told-of, unchanged}
use Rattle.wk_session.proofs.acts.act_now.Goals as goal

pub act-acted-requires : goal.act-acted-requires
act-acted-requires g c = record { unsealed = λ asks. ap (λ (s : Start). s.sealed) c.take-held.ensures.taken.start ∙ c.requires.unsealed }

pub give-point-requires-clause-made : goal.give-point-requires-clause-made
give-point-requires-clause-made g c =
    acted-makes g.K.Keeper.told g.K.Keeper.faults g.K.Keeper.is_whole c.args.shared.now c.args.reader.now.pass c.take-held.new.reader.pass c.take-held.result.value c.act-acted.new.wiki _
    c.take-held.ensures.taken c.take-held.ensures.keeper c.act-acted.ensures.keeper (valid (request_asked c.args.request.now)) c.args.moment c.act-acted.result c.take-held.ensures.before
    c.act-acted.ensures.acted c.act-acted.ensures.memory

pub returns-in-Ok : goal.returns-in-Ok
returns-in-Ok g c =
    let fails = MayFail c.args.shared.now.start in
    let parsed = valid (request_asked c.args.request.now) in
    let taken = c.take-held.ensures.taken in
    let out = acted-on g.K.Keeper.told g.K.Keeper.faults g.K.Keeper.is_whole c.args.reader.now.pass.own c.take-held.result.value c.act-acted.new.wiki c.args.shared.now.start
    taken.start c.take-held.ensures.keeper c.act-acted.ensures.keeper parsed c.args.moment c.in-Ok.value c.in-Ok.ensures.acted in
    let Call = ActTold fails parsed (c.args.moment ∷ []) c.in-Ok.value in
    told-of c.args.shared.now fails c.args.reader.now.pass c.give-point.new.reader.pass c.give-point.result
    (has-seen g.K.Keeper.told c.args.shared.now c.args.reader.now.pass c.take-held.new.reader.pass c.take-held.result.value c.act-acted.new.wiki taken _ _ _
    c.requires.free.turn c.take-held.ensures.before c.give-point.ensures Call out)
    parsed (c.args.moment ∷ []) c.in-Ok.value (one-moment (request_asked c.args.request.now) c.args.moment c.requires.asks)
    (is-made g.K.Keeper.told c.args.shared.now c.args.reader.now.pass c.take-held.new.reader.pass c.take-held.result.value c.act-acted.new.wiki taken _ _ _
    c.requires.free.turn c.take-held.ensures.before c.give-point.ensures Call out)

pub returns-in-Err : goal.returns-in-Err
returns-in-Err g c =
    let fails = MayFail c.args.shared.now.start in
    let parsed = valid (request_asked c.args.request.now) in
    let taken = c.take-held.ensures.taken in
    let out = unchanged g.K.Keeper.told c.args.reader.now.pass.own c.take-held.result.value c.act-acted.new.wiki c.in-Err.ensures.memory in
    starved c.args.shared.now fails c.args.reader.now.pass c.give-point.new.reader.pass c.give-point.result
    (has-seen g.K.Keeper.told c.args.shared.now c.args.reader.now.pass c.take-held.new.reader.pass c.take-held.result.value c.act-acted.new.wiki taken _ _ _
    c.requires.free.turn c.take-held.ensures.before c.give-point.ensures NothingTold out)
    parsed (c.args.moment ∷ []) c.no_memory.result
    (is-made g.K.Keeper.told c.args.shared.now c.args.reader.now.pass c.take-held.new.reader.pass c.take-held.result.value c.act-acted.new.wiki taken _ _ _
    c.requires.free.turn c.take-held.ensures.before c.give-point.ensures NothingTold out)
    (one-moment (request_asked c.args.request.now) c.args.moment c.requires.asks) c.no_memory.ensures.point c.no_memory.ensures.value
