use Rattle.wk_subst.proofs.StackLaws.{IsTold}
use Rattle.wk_subst.proofs.stack.calls_in.Given as goal

-- the calls among the nodes before this one
abbrev pub invariant-walk : goal.invariant-walk
invariant-walk l = IsTold l.opened l.at l.count
