use Rattle.std.proofs.Common.{◌≡◌, map, take}
use Rattle.serde_json.specs.View.{view}
use Rattle.wk_answer_rules.specs.Values.{object_of, title_entries}
use Rattle.wk_replies.proofs.values.titles_value.Given as goal

abbrev pub invariant-loop-title : goal.invariant-loop-title
invariant-loop-title l = map view l.values.items ≡ map (λ title. object_of (title_entries title)) (take l.title-index l.titles)
