use Rattle.std.proofs.Common.{ap, ◌∙◌, subst}
use Rattle.std.specs.Prelude.{Err}
use Rattle.wk_base.specs.Faults.{Rose}
use Rattle.wk_replica_serving.proofs.taker.take_all.Goals as goal

pub taking-preserved : goal.taking-preserved
taking-preserved g c =
    let inv = c.taking.invariant in
    (c.take_next.ensures.free, inv.1, (λ rest h. c.in-Ok.ensures.taken rest (inv.2 rest h)), c.in-Ok.ensures.no_fault ∙ inv.3)

pub taking-smaller : goal.taking-smaller
taking-smaller g c = c.in-Ok.ensures.fewer

-- no more lines are taken
pub returns-in-Err-clause-fed : goal.returns-in-Err-clause-fed
returns-in-Err-clause-fed g c = λ rest h. c.in-Err.ensures.ended rest (c.taking.invariant.2 rest h)

pub returns-in-Err-clause-no_fault : goal.returns-in-Err-clause-no_fault
returns-in-Err-clause-no_fault g c = λ is. c.take_next.ensures.no_fault_at_end (c.in-Err.is ∙ ap Err is) ∙ c.taking.invariant.3

pub returns-in-Err-clause-fault : goal.returns-in-Err-clause-fault
returns-in-Err-clause-fault g c = λ is.
    subst (λ n. Rose n (g.I.Source.faults c.take_next.new.input)) c.taking.invariant.3 (c.take_next.ensures.fault (c.in-Err.is ∙ ap Err is))
