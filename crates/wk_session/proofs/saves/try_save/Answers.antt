use Rattle.std.proofs.Common.{[], ◌∷◌, length, ◌∙◌, ap, sym}
use Rattle.std.specs.Prelude.{Some}
use Rattle.wk_request.specs.Asked.{request_asked}
use Rattle.wk_request_rules.specs.Requests.{valid}
use Rattle.wk_shared.specs.Calls.{MayFail}
use Rattle.wk_session.proofs.Acting.{one-moment}
use Rattle.wk_session.proofs.Passing.{on-since, tried-since}
use Rattle.wk_session.proofs.saves.try_save.Goals as goal

pub act_made-requires-clause-given : goal.act_made-requires-clause-given
act_made-requires-clause-given g c = c.requires.given ∙ ap Some (sym c.in-Ok.ensures.saved)

pub act_made-requires-clause-since : goal.act_made-requires-clause-since
act_made-requires-clause-since g c = (length c.args.worker.now.reader.pass.seen, c.in-Ok.ensures.since)

pub returns-in-Ok : goal.returns-in-Ok
returns-in-Ok g c =
    tried-since c.args.shared.now (MayFail c.args.shared.now.start) c.args.worker.now.reader.pass c.transform.new.self.pass c.act_made.new.reader.pass
    (valid (request_asked c.args.request.now)) c.args.moment c.act_made.result c.transform.ensures.pass c.act_made.ensures

pub returns-in-Err : goal.returns-in-Err
returns-in-Err g c =
    let parsed = valid (request_asked c.args.request.now) in
    on-since c.args.shared.now (MayFail c.args.shared.now.start) c.args.worker.now.reader.pass c.transform.new.self.pass c.starve.new.reader.pass
    parsed (c.args.moment ∷ []) c.starve.result c.transform.ensures.pass
    (c.starve.ensures.timed parsed (c.args.moment ∷ []) (one-moment (request_asked c.args.request.now) c.args.moment c.requires.asks))
