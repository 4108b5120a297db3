use Rattle.wk_links.specs.Pairs.{NoPair}
use Rattle.wk_links.proofs.brackets.label_end.Given as goal

abbrev pub invariant-loop-at : goal.invariant-loop-at
invariant-loop-at l = NoPair 93 l.seen l.from l.at × NoPair 91 l.seen l.from l.at
