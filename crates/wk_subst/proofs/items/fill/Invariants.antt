use Rattle.wk_subst.proofs.ItemLaws.{IsAdded}
use Rattle.wk_subst.proofs.items.fill.Given as goal

-- what the items before this one add to the text
abbrev pub invariant-walk : goal.invariant-walk
invariant-walk l = IsAdded l.tree l.fn.list l.fn.start l.at l.fn.stays l.initial.out l.out
