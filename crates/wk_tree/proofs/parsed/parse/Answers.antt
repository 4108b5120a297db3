use Rattle.std.proofs.Common.{◌∙◌, sym}
use Rattle.wk_tree.specs.Laid.{root_of}
use Rattle.wk_tree.proofs.ViewLemmas.{parsed-is}
use Rattle.wk_tree.proofs.parsed.parse.Goals as goal

pub invariant_of-result : goal.invariant_of-result
invariant_of-result c =
    parsed-is c.args.mode c.in_ok-text.text c.as_bytes-whole.result.now c.source_in-source.result.now _ (root_of c.in_ok-laid.laid) _
    (c.as_bytes-whole.ensures.value ∙ c.as_str.ensures.value ∙ sym c.in_ok-text.ensures) c.in_ok-selected.ensures c.source_in-source.ensures
    c.in_ok-laid.ensures
