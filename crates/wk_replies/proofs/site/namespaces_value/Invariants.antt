use Rattle.std.proofs.Common.{◌≡◌, map, take}
use Rattle.serde_json.specs.View.{view}
use Rattle.wk_answer_rules.specs.Pages.{namespace_numbers, namespace_value}
use Rattle.wk_replies.proofs.site.namespaces_value.Given as goal

abbrev pub invariant-loop-ns : goal.invariant-loop-ns
invariant-loop-ns l = map view l.values.items ≡ map namespace_value (take l.ns-index namespace_numbers)
