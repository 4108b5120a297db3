use Rattle.std.proofs.Common.{sym, subst}
use Rattle.wk_replica_serving.specs.Feeds.{EndsFeed}
use Rattle.wk_replica_serving.specs.Taken.{HasTakenShared}
use Rattle.wk_replica_serving.proofs.serves.serve_shared.Goals as goal

-- the pass that takes the lines has seen what it had seen before it was split
pub returns-clause-fed : goal.returns-clause-fed
returns-clause-fed g c = λ rest h.
    subst (λ n. EndsFeed rest (g.I.Source.rest c.serve_door-closed.new.input) n c.serve_door-closed.result.end) (sym c.point-2.ensures.length)
    (c.serve_door-closed.ensures.fed rest (subst (λ p. HasTakenShared c.args.shared.now p c.args.lines rest (g.I.Source.rest c.args.input.now)) (sym c.hands.ensures.pass) h))
