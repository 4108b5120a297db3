use Rattle.wk_expand.proofs.ListLaws.{IsAdded}
use Rattle.wk_expand.proofs.items.fill.Given as goal

-- what the items before this one add to the output
abbrev pub invariant-walk : goal.invariant-walk
invariant-walk l = IsAdded l.tree l.fn.list l.fn.start l.at l.initial.out l.out
