use Rattle.std.proofs.Common.{Some, ap, sym, ◌∙◌}
use Rattle.wk_form.specs.Parameters.{first_value}
use Rattle.wk_form.proofs.FindLemmas.{first_pair, value_text, first_value-texts}
use Rattle.wk_form.proofs.params.Params.get.Goals as goal

pub returns-in-Some : goal.returns-in-Some
returns-in-Some c =
    ap Some c.as_str.ensures.value
    ∙ (ap value_text c.in-Some.ensures
    ∙ (ap (λ pairs. value_text (first_pair c.args.name.now pairs)) c.deref.ensures.value
    ∙ (sym (first_value-texts c.args.name.now c.self.inside.pairs.items) ∙ ap (first_value c.args.name.now) c.self.view_is)))

pub returns-in-None : goal.returns-in-None
returns-in-None c =
    ap value_text c.in-None.ensures
    ∙ (ap (λ pairs. value_text (first_pair c.args.name.now pairs)) c.deref.ensures.value
    ∙ (sym (first_value-texts c.args.name.now c.self.inside.pairs.items) ∙ ap (first_value c.args.name.now) c.self.view_is))
