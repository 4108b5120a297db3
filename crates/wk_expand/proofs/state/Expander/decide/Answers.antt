use Rattle.std.proofs.Common.{◌≡◌, ◌==◌, None, drop, if◌then◌else◌, sym, ap, ◌∙◌}
use Rattle.wk_text_rules.specs.Marked.{all_plain, trimmed_output}
use Rattle.wk_text_rules.specs.Titles.{PageTitle}
use Rattle.wk_view_rules.specs.Expand.{function_output, page_output, template_output}
use Rattle.wk_view_rules.specs.Expansions.{Output}
use Rattle.wk_view_rules.specs.Texts.{variable_text}
use Rattle.wk_view_rules.specs.Words.{function_called, variable_called}
use Rattle.wk_view_rules.specs.declared.Word.TheVariants.{Variable, Function, Page}
use Rattle.wk_expand.specs.Decisions.{decision_rest}
use Rattle.wk_expand.proofs.DecideLaws.{template-by, word-place}
use Rattle.wk_expand.proofs.RunLaws.{gives-here, leads-as}
use Rattle.wk_expand.proofs.state.Expander.decide.Goals as goal

pub returns-in-Variable-clause-leads : goal.returns-in-Variable-clause-leads
returns-in-Variable-clause-leads c =
    λ viewed frame is inner parts count.
    gives-here c.args.seen.now (template_output inner viewed frame c.args.name.now parts) c.args.self.now (all_plain (variable_text viewed c.in-Variable.variable)) c.in_ok-text-in-Variable.text
    (template-by inner viewed frame c.args.name.now c.made_or-title.result.now parts c.args.count (Variable c.in-Variable.variable) (c.made_or-title.ensures ∙ c.in_ok-made.ensures) count (sym c.find.ensures ∙ c.in-Variable.is))
    (c.in_ok-text-in-Variable.ensures ∙ ap (λ (page : PageTitle). all_plain (variable_text page c.in-Variable.variable)) is.page)

pub function-requires : goal.function-requires
function-requires c =
    word-place (if c.args.count == 0 then variable_called c.made_or-title.result.now else None) (function_called c.made_or-title.result.now) c.in-Function.func c.in-Function.place (sym c.find.ensures ∙ c.in-Function.is)

pub returns-in-Function-clause-leads : goal.returns-in-Function-clause-leads
returns-in-Function-clause-leads c =
    λ viewed frame is inner parts count.
    let title = c.made_or-title.result.now in
    let trimmed : title ≡ trimmed_output c.args.name.now = c.made_or-title.ensures ∙ c.in_ok-made.ensures in
    leads-as c.args.seen.now (template_output inner viewed frame c.args.name.now parts) (function_output inner viewed frame c.in-Function.func (trimmed_output (drop c.in-Function.place title)) parts) c.args.self.now (decision_rest inner viewed frame c.args.name.now parts) c.function.result c.function.new.self
    (template-by inner viewed frame c.args.name.now title parts c.args.count (Function c.in-Function.func c.in-Function.place) trimmed count (sym c.find.ensures ∙ c.in-Function.is)
    ∙ ap (λ (out : Output). function_output inner viewed frame c.in-Function.func (trimmed_output (drop c.in-Function.place out)) parts) (sym trimmed))
    (c.function.ensures.leads inner viewed frame c.args.name.now parts count)

pub returns-clause-leads : goal.returns-clause-leads
returns-clause-leads c =
    λ viewed frame is inner parts count.
    leads-as c.args.seen.now (template_output inner viewed frame c.args.name.now parts) (page_output inner viewed frame c.args.name.now parts) c.args.self.now (decision_rest inner viewed frame c.args.name.now parts) c.called.result c.called.new.self
    (template-by inner viewed frame c.args.name.now c.made_or-title.result.now parts c.args.count Page (c.made_or-title.ensures ∙ c.in_ok-made.ensures) count (sym c.find.ensures ∙ c.in-Page.is))
    (c.called.ensures.leads viewed frame is inner c.args.name.now parts (c.made_or-title.ensures ∙ c.in_ok-made.ensures))
