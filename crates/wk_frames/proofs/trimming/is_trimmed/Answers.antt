use Rattle.std.proofs.Common.{length, ap, sym, ◌∙◌}
use Rattle.std.proofs.lemmas.Bool.{OnTrue_from, eqb-true}
use Rattle.wk_text_rules.specs.Blank.{trimmed}
use Rattle.wk_frames.proofs.TrimLaws.{trimmed_already}
use Rattle.wk_frames.proofs.trimming.is_trimmed.Goals as goal

pub returns : goal.returns
returns c =
    let text = c.as_bytes-text.ensures.value ∙ c.text.ensures in
    OnTrue_from _ _ (λ e.
    trimmed_already c.args.out.now
    (ap (λ s. length (trimmed s)) (sym text) ∙ ap length (sym c.trim.ensures) ∙ eqb-true _ _ e ∙ ap length text))
