use Rattle.std.proofs.Common.{ap, ◌∙◌}
use Rattle.wk_text_rules.specs.Blank.{trimmed_end, trimmed_start}
use Rattle.wk_out.proofs.BlankLemmas.{end_is_boundary, front_is_boundary}
use Rattle.wk_subst.proofs.names.trimmed_text.Goals as goal

pub range_from-text-requires : goal.range_from-text-requires
range_from-text-requires c _ =
    front_is_boundary c.args.text.now c.trim_start-rest.result.now (c.trim_start-rest.ensures ∙ ap trimmed_start c.as_bytes.ensures.value) c.utf8.text

pub range-requires-clause-end_boundary : goal.range-requires-clause-end_boundary
range-requires-clause-end_boundary c =
    end_is_boundary c.range_from-text.result.now c.trim_end-front.result.now (c.trim_end-front.ensures ∙ ap trimmed_end c.as_bytes-2.ensures.value)
