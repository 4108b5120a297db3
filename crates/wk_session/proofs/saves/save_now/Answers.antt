use Rattle.std.proofs.Common.{[], ◌∷◌}
use Rattle.wk_request.specs.Asked.{request_asked}
use Rattle.wk_request_rules.specs.Requests.{valid}
use Rattle.wk_session.proofs.Acting.{one-moment}
use Rattle.wk_session.proofs.saves.save_now.Goals as goal

pub returns-in-Err : goal.returns-in-Err
returns-in-Err g c =
    c.starve.ensures.timed (valid (request_asked c.args.request.now)) (c.args.moment ∷ []) (one-moment (request_asked c.args.request.now) c.args.moment c.requires.asks)
