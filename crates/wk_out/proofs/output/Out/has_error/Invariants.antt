use Rattle.std.proofs.Common.{◌≡◌}
use Rattle.wk_text_rules.specs.Marked.{has_error}
use Rattle.wk_out.specs.Runs.{AreMaximal, joined}
use Rattle.wk_out.proofs.output.Out.has_error.Given as goal

abbrev pub invariant-loop-text : goal.invariant-loop-text
invariant-loop-text l = AreMaximal l.text-iterator × (has_error (joined l.text-iterator) ≡ has_error l.self)
