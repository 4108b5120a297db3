use Rattle.std.proofs.Common.{ap, ◌∙◌}
use Rattle.wk_text_rules.specs.Blank.{trimmed_end}
use Rattle.wk_revs.proofs.BlankEnds.{IsSplitPoint-trimmed_end}
use Rattle.wk_revs.proofs.kept_text.without_blank_end.Goals as goal

pub truncate-requires : goal.truncate-requires
truncate-requires c =
    λ _. let bytes = c.as_bytes.ensures.value in
    IsSplitPoint-trimmed_end _ _ (c.trim_end-end.ensures ∙ ap trimmed_end bytes)
