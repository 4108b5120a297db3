use Rattle.std.proofs.Common.{sym, ◌∙◌, ap, option_copied}
use Rattle.wk_request_rules.specs.Modules.{query_lists}
use Rattle.wk_request.proofs.Calls.{called-named, query-list}
use Rattle.wk_request.proofs.modules.query_called.Goals as goal

pub returns-in-Some : goal.returns-in-Some
returns-in-Some c =
    let given = sym c.get.ensures ∙ ap option_copied c.in-Some.is in
    called-named query_lists _ c.args.params.now c.in-Some.name.now _ _ given c.list_named.ensures c.ok_or.ensures.value ∙ query-list c.args.params.now c.in-Some.name.now given
