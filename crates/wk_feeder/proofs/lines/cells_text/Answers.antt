use Rattle.std.proofs.Common.{ap, ◌∙◌}
use Rattle.serde_json.specs.Written.{compact_text, has_float}
use Rattle.wk_feeder.proofs.Cells.{no_floats}
use Rattle.wk_feeder.proofs.lines.cells_text.Goals as goal

pub returns : goal.returns
returns c =
    let seen = c.in_ok-value.ensures in
    c.in_ok-to_string.ensures.text (ap has_float seen ∙ no_floats c.args.cells.now) ∙ ap compact_text seen
