use Rattle.std.proofs.Common.{◌≡◌, ◌∙◌, ap, ap₂}
use Rattle.std.proofs.lemmas.Result.{IfOk-weaker}
use Rattle.clap.specs.Words.{app_of, rule_of, with_rule}
use Rattle.wk_words.specs.Options.{workers, procs, max_connections, number_rule}
use Rattle.wk_words.proofs.options.with_first_numbers.Goals as goal

pub returns : goal.returns
returns c =
    let first : rule_of c.number_arg-workers.result ≡ number_rule workers = c.number_arg-workers.ensures.rule in
    let second : rule_of c.number_arg-procs.result ≡ number_rule procs = c.number_arg-procs.ensures.rule in
    let third : rule_of c.number_arg-max_connections.result ≡ number_rule max_connections = c.number_arg-max_connections.ensures.rule in
    let one = c.in_ok-arg.ensures.shape c.number_arg-workers.ensures.local ∙ ap (with_rule (app_of c.args.app)) first in
    let two = c.in_ok-arg-2.ensures.shape c.number_arg-procs.ensures.local ∙ ap₂ with_rule one second in
    IfOk-weaker c.arg-3.result _ _ (λ app added. added.shape c.number_arg-max_connections.ensures.local ∙ ap₂ with_rule two third) c.arg-3.ensures
