use Rattle.std.proofs.Common.{◌∙◌}
use Rattle.std.proofs.lemmas.Result.{IfOk-weaker}
use Rattle.wk_redirect.proofs.RedirectLaws.{no_target, target_named}
use Rattle.wk_redirect.proofs.redirect.redirect_target.Goals as goal

pub returns-in_default : goal.returns-in_default
returns-in_default c = no_target c.args.text.now c.in_default.ensures

pub returns : goal.returns
returns c =
    IfOk-weaker c.page_named.result _ _ (λ found e. e ∙ target_named c.args.text.now c.in-Some.target.now c.in-Some.ensures) c.page_named.ensures
