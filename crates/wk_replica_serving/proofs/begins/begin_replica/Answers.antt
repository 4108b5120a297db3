use Rattle.std.proofs.Common.{◌≡◌, refl, ap, ◌∙◌, subst}
use Rattle.std.specs.Prelude.{Err}
use Rattle.wk_base.specs.Faults.{Rose}
use Rattle.wk_replica_serving.specs.declared.ends.FeedEnd.TheVariants.{ReadFault}
use Rattle.wk_replica_serving.proofs.FeedLaws.{none-taken}
use Rattle.wk_replica_serving.proofs.begins.begin_replica.Goals as goal

pub taking-init : goal.taking-init
taking-init g c = (none-taken _ _ c.in-Ok.replica c.new_reader-lines.ensures c.in-Ok.ensures, c.in-Ok.ensures.going, refl)

pub taking-preserved : goal.taking-preserved
taking-preserved g c =
    let inv = c.taking.invariant in
    let took = c.in-Ok-take_next.ensures in
    (took.taken _ inv.0, took.going, took.no_fault ∙ inv.2)

pub taking-smaller : goal.taking-smaller
taking-smaller g c = c.in-Ok-take_next.ensures.fewer

-- no more lines come
pub returns-in-Err-take_next-clause-ended : goal.returns-in-Err-take_next-clause-ended
returns-in-Err-take_next-clause-ended g c = c.in-Err-take_next.ensures.ended _ c.taking.invariant.0

pub returns-in-Err-take_next-clause-fault : goal.returns-in-Err-take_next-clause-fault
returns-in-Err-take_next-clause-fault g c = λ is.
    let same : c.in-Err-take_next.end ≡ ReadFault = cc in
    subst (λ n. Rose n (g.I.Source.faults c.take_next.new.input)) c.taking.invariant.2 (c.take_next.ensures.fault (c.in-Err-take_next.is ∙ ap Err same))
