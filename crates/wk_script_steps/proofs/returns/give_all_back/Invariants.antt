use Rattle.wk_script_steps.proofs.Returning.{AreLeft}
use Rattle.wk_script_steps.proofs.returns.give_all_back.Given as goal

abbrev pub invariant-tickets : goal.invariant-tickets
invariant-tickets g l = AreLeft l.fn.wiki l.wiki l.fn.tickets.items l.left.rest.items

abbrev pub decreases-tickets : goal.decreases-tickets
decreases-tickets g l = l.left.rest.len
