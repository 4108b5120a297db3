use Rattle.std.proofs.Common.{sym, ◌∙◌, ap}
use Rattle.wk_request.specs.Refusals.{checked_as}
use Rattle.wk_request.proofs.Requests.{refuses}
use Rattle.wk_request.proofs.request.Request.read.Goals as goal

pub returns-in-Err-clause-err : goal.returns-in-Err-clause-err
returns-in-Err-clause-err c =
    refuses _ _ c.told.result (sym c.checked.ensures ∙ ap (checked_as c.args.params.now) c.in-Err.is) c.told.ensures
