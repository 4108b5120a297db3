use Rattle.std.proofs.Common.{◌∙◌}
use Rattle.wk_text_rules.specs.Decimal.{decimal_number}
use Rattle.wk_http.proofs.FieldLemmas.{map-values}
use Rattle.wk_http.proofs.fields.lengths.Goals as goal

pub returns : goal.returns
returns c =
    c.in_ok-numbers.ensures
    ∙ map-values decimal_number c.in_ok-values.values.items c.deref.result.now _ c.deref.ensures.value c.in_ok-values.ensures
