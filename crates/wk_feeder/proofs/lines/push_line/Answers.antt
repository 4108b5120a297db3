use Rattle.std.proofs.Common.{◌++◌, ◌∷◌, [], map, string_bytes, append_assoc, ap, ◌∙◌}
use Rattle.serde_json.specs.Written.{compact_text}
use Rattle.wk_answer_rules.specs.Values.{array_of}
use Rattle.wk_feeder.specs.Cells.{data_of}
use Rattle.wk_feeder.proofs.lines.push_line.Goals as goal

pub returns : goal.returns
unfolding lib.Utf8.encode
returns c =
    let text = c.in_ok-line.ensures in
    let before = string_bytes c.args.lines.now in
    c.in_ok-push.ensures.bytes
    ∙ ap (λ l. l ++ 10 ∷ []) (c.in_ok-push_str.ensures.bytes ∙ ap (λ l. before ++ l) (c.deref.ensures ∙ text))
    ∙ append_assoc before (compact_text (array_of (map data_of c.args.cells.now))) (10 ∷ [])
