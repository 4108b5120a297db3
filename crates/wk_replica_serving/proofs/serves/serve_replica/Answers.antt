use Rattle.std.proofs.Common.{ap}
use Rattle.wk_replica_serving.proofs.SharedLaws.{Pass, shares}
use Rattle.wk_replica_serving.proofs.serves.serve_replica.Goals as goal

-- the pass of who shared it has seen what was taken before
pub returns-in-Ok-clause-fed : goal.returns-in-Ok-clause-fed
returns-in-Ok-clause-fed g c = λ rest h.
    c.serve_shared.ensures.fed rest
    (shares c.in-Ok.shared c.in-Ok.pass c.args.begun.lines c.args.begun.replica c.in-Ok.ensures.ok.0 (ap (λ (p : Pass). p.seen) c.in-Ok.ensures.ok.1)
    c.requires.started (c.facts.ensures.run c.requires.going) rest _ h)
