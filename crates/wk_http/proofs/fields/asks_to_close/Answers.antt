use Rattle.std.proofs.Common.{codes, ◌∙◌}
use Rattle.std.specs.Str.{str_eq_ignore_ascii_case}
use Rattle.wk_http.proofs.FieldLemmas.{list_any-values}
use Rattle.wk_http.proofs.fields.asks_to_close.Goals as goal

pub returns : goal.returns
returns c =
    c.any_is.ensures
    ∙ list_any-values (λ value. str_eq_ignore_ascii_case value (codes "close")) c.in_ok-values.values.items c.deref.result.now _ c.deref.ensures.value c.in_ok-values.ensures
