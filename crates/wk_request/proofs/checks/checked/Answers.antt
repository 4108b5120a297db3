use Rattle.std.proofs.Common.{sym, ◌∙◌, ap}
use Rattle.wk_request.specs.Called.{called}
use Rattle.wk_request.proofs.Requests.{asked-call}
use Rattle.wk_request.proofs.checks.checked.Goals as goal

pub returns-in-Ok : goal.returns-in-Ok
returns-in-Ok c =
    c.checked_module.ensures ∙ asked-call c.args.params.now c.args.posted _ (sym (ap called c.in-Ok.is) ∙ c.module_called.ensures)

pub returns-in-Err : goal.returns-in-Err
returns-in-Err c = asked-call c.args.params.now c.args.posted _ (sym (ap called c.in-Err.is) ∙ c.module_called.ensures)
