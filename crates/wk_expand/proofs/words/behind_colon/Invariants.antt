use Rattle.std.proofs.Common.{◌≡◌, ◌++◌, drop}
use Rattle.wk_out.specs.Runs.{joined}
use Rattle.wk_expand.proofs.words.behind_colon.Given as goal

abbrev pub invariant-loop-text : goal.invariant-loop-text
invariant-loop-text l = l.out ++ joined l.text-iterator ≡ drop l.place l.title
