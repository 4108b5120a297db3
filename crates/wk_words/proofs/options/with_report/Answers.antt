use Rattle.std.proofs.Common.{◌≡◌, ◌∙◌, ap, ap₂, codes}
use Rattle.std.proofs.lemmas.Result.{IfOk-weaker}
use Rattle.clap.specs.Words.{app_of, rule_of, with_rule}
use Rattle.wk_words.specs.Options.{flag_rule, most_lines, number_rule, text_rule}
use Rattle.wk_words.proofs.options.with_report.Goals as goal

pub returns : goal.returns
returns c =
    let first : rule_of c.number_arg-most.result ≡ number_rule most_lines = c.number_arg-most.ensures.rule in
    let second : rule_of c.text_arg-report.result ≡ text_rule (codes "report") = c.text_arg-report.ensures.rule in
    let third : rule_of c.flag_arg-feed.result ≡ flag_rule (codes "feed") = c.flag_arg-feed.ensures.rule in
    let one = c.in_ok-arg.ensures.shape c.number_arg-most.ensures.local ∙ ap (with_rule (app_of c.args.app)) first in
    let two = c.in_ok-arg-2.ensures.shape c.text_arg-report.ensures.local ∙ ap₂ with_rule one second in
    IfOk-weaker c.arg-3.result _ _ (λ app added. added.shape c.flag_arg-feed.ensures.local ∙ ap₂ with_rule two third) c.arg-3.ensures
