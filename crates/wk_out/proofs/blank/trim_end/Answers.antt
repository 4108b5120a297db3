use Rattle.std.proofs.Common.{ap, ◌∙◌}
use Rattle.wk_text_rules.specs.Blank.{trimmed_end}
use Rattle.wk_out.proofs.BlankLemmas.{end_is_boundary}
use Rattle.wk_out.proofs.blank.trim_end.Goals as goal

pub range-requires-clause-end_boundary : goal.range-requires-clause-end_boundary
range-requires-clause-end_boundary c =
    end_is_boundary c.args.text.now c.trim_end-front.result.now (c.trim_end-front.ensures ∙ ap trimmed_end c.as_bytes.ensures.value)
