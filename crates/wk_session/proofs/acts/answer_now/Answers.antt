use Rattle.std.proofs.Common.{[], length}
use Rattle.wk_request.specs.Asked.{request_asked}
use Rattle.wk_request_rules.specs.Requests.{valid}
use Rattle.wk_answer_laws.proofs.Points.{request-none}
use Rattle.wk_shared.specs.Calls.{MayFail}
use Rattle.wk_shared.proofs.Made.{has-seen, is-made, makes}
use Rattle.wk_session.proofs.Acting.{ActTold, NothingTold, answered-on, looked, starved, told-of}
use Rattle.wk_session.proofs.Reading.{no-moments}
use Rattle.wk_session.proofs.acts.answer_now.Goals as goal

pub give-point-requires-clause-made : goal.give-point-requires-clause-made
give-point-requires-clause-made g c =
    makes g.K.Keeper.told c.args.shared.now c.args.reader.now.pass c.take-held.new.reader.pass c.take-held.result.value c.take-held.result.value c.take-held.ensures.taken
    NothingTold _ c.take-held.ensures.before (looked g.K.Keeper.told c.args.reader.now.pass.own c.take-held.result.value)

pub returns-in-Ok : goal.returns-in-Ok
returns-in-Ok g c =
    let fails = MayFail c.args.shared.now.start in
    let request = request_asked c.args.request.now in
    let parsed = valid request in
    let taken = c.take-held.ensures.taken in
    let wiki = c.take-held.result.value in
    let out = answered-on g.K.Keeper.told c.args.reader.now.pass.own wiki fails parsed [] c.in-Ok.value
    (request-none wiki.start.limits wiki.state (length wiki.journal) 0 request c.requires.asks) (c.in-Ok.ensures 0) in
    let Call = ActTold fails parsed [] c.in-Ok.value in
    told-of c.args.shared.now fails c.args.reader.now.pass c.give-point.new.reader.pass c.give-point.result
    (has-seen g.K.Keeper.told c.args.shared.now c.args.reader.now.pass c.take-held.new.reader.pass wiki wiki taken _ _ _
    c.requires.free.turn c.take-held.ensures.before c.give-point.ensures Call out)
    parsed [] c.in-Ok.value (no-moments request c.requires.asks)
    (is-made g.K.Keeper.told c.args.shared.now c.args.reader.now.pass c.take-held.new.reader.pass wiki wiki taken _ _ _
    c.requires.free.turn c.take-held.ensures.before c.give-point.ensures Call out)

pub returns-in-Err : goal.returns-in-Err
returns-in-Err g c =
    let fails = MayFail c.args.shared.now.start in
    let request = request_asked c.args.request.now in
    let taken = c.take-held.ensures.taken in
    let wiki = c.take-held.result.value in
    let out = looked g.K.Keeper.told c.args.reader.now.pass.own wiki in
    starved c.args.shared.now fails c.args.reader.now.pass c.give-point.new.reader.pass c.give-point.result
    (has-seen g.K.Keeper.told c.args.shared.now c.args.reader.now.pass c.take-held.new.reader.pass wiki wiki taken _ _ _
    c.requires.free.turn c.take-held.ensures.before c.give-point.ensures NothingTold out)
    (valid request) [] c.no_memory.result
    (is-made g.K.Keeper.told c.args.shared.now c.args.reader.now.pass c.take-held.new.reader.pass wiki wiki taken _ _ _
    c.requires.free.turn c.take-held.ensures.before c.give-point.ensures NothingTold out)
    (no-moments request c.requires.asks) c.no_memory.ensures.point c.no_memory.ensures.value
