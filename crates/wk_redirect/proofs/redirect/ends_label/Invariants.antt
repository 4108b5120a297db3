use Rattle.std.proofs.Common.{◌≡◌, drop}
use Rattle.wk_redirect.proofs.LabelLaws.{has_label}
use Rattle.wk_redirect.proofs.redirect.ends_label.Given as goal

abbrev pub invariant-loop-at : goal.invariant-loop-at
invariant-loop-at l = has_label (drop l.at l.text) ≡ has_label l.text
