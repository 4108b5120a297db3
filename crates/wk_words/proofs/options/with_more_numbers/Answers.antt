use Rattle.std.proofs.Common.{◌≡◌, ◌∙◌, ap, ap₂}
use Rattle.std.proofs.lemmas.Result.{IfOk-weaker}
use Rattle.clap.specs.Words.{app_of, rule_of, with_rule}
use Rattle.wk_words.specs.Options.{pages, number, journal_limit, number_rule}
use Rattle.wk_words.proofs.options.with_more_numbers.Goals as goal

pub returns : goal.returns
returns c =
    let first : rule_of c.number_arg-pages.result ≡ number_rule pages = c.number_arg-pages.ensures.rule in
    let second : rule_of c.number_arg-number.result ≡ number_rule number = c.number_arg-number.ensures.rule in
    let third : rule_of c.number_arg-journal_limit.result ≡ number_rule journal_limit = c.number_arg-journal_limit.ensures.rule in
    let one = c.in_ok-arg.ensures.shape c.number_arg-pages.ensures.local ∙ ap (with_rule (app_of c.args.app)) first in
    let two = c.in_ok-arg-2.ensures.shape c.number_arg-number.ensures.local ∙ ap₂ with_rule one second in
    IfOk-weaker c.arg-3.result _ _ (λ app added. added.shape c.number_arg-journal_limit.ensures.local ∙ ap₂ with_rule two third) c.arg-3.ensures
