use Rattle.std.proofs.Common.{sym, ◌∙◌, ap, option_copied}
use Rattle.wk_request_rules.specs.Modules.{actions}
use Rattle.wk_request.proofs.Calls.{called-named}
use Rattle.wk_request.proofs.modules.action_called.Goals as goal

pub returns-in-Some : goal.returns-in-Some
returns-in-Some c =
    called-named actions _ c.args.params.now c.in-Some.name.now _ _ (sym c.get.ensures ∙ ap option_copied c.in-Some.is) c.action_named.ensures c.ok_or.ensures.value
