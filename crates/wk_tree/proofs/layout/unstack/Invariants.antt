use Rattle.wk_tree.proofs.StackLemmas.{IsUnstacked}
use Rattle.wk_tree.proofs.layout.unstack.Given as goal

abbrev pub invariant-loop-one : goal.invariant-loop-one
invariant-loop-one g l = IsUnstacked l._one l.fn.list.items l.fn.stack.items l.list.items l.stack.items
