use Rattle.std.proofs.Common.{sym, ◌∙◌, ap}
use Rattle.wk_request.specs.Refusals.{failed}
use Rattle.wk_request.proofs.Requests.{asked-module}
use Rattle.wk_request.proofs.checks.checked_module.Goals as goal

pub returns-in-Ok : goal.returns-in-Ok
returns-in-Ok c = asked-module c.args.params.now c.args.posted c.args.kind _ (sym (ap failed c.in-Ok.is) ∙ c.check.ensures)

pub returns-in-Err : goal.returns-in-Err
returns-in-Err c = asked-module c.args.params.now c.args.posted c.args.kind _ (sym (ap failed c.in-Err.is) ∙ c.check.ensures)
