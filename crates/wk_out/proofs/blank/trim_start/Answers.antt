use Rattle.std.proofs.Common.{ap, ◌∙◌}
use Rattle.wk_text_rules.specs.Blank.{trimmed_start}
use Rattle.wk_out.proofs.BlankLemmas.{front_is_boundary}
use Rattle.wk_out.proofs.blank.trim_start.Goals as goal

pub range_from-requires : goal.range_from-requires
range_from-requires c _ =
    front_is_boundary c.args.text.now c.trim_start-rest.result.now (c.trim_start-rest.ensures ∙ ap trimmed_start c.as_bytes.ensures.value) c.utf8.text
