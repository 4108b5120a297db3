use Rattle.std.proofs.Common.{codes, ◌∙◌}
use Rattle.wk_wire_rules.specs.Heads.{begins_with}
use Rattle.wk_http.proofs.FieldLemmas.{list_any-values}
use Rattle.wk_http.proofs.fields.is_multipart.Goals as goal

pub returns : goal.returns
returns c =
    c.any_begins_with.ensures
    ∙ list_any-values (begins_with (codes "multipart/")) c.in_ok-values.values.items c.deref.result.now _ c.deref.ensures.value c.in_ok-values.ensures
