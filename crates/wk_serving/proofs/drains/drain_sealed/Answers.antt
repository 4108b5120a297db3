use Rattle.std.proofs.Common.{ap}
use Rattle.wk_serving.proofs.Sharing.{came-back, not-shared, sealed-back}
use Rattle.wk_serving.proofs.drains.drain_sealed.Goals as goal

pub returns-in-Ok : goal.returns-in-Ok
returns-in-Ok g c =
    sealed-back c.args.wiki c.seal.new.self c.finish.result c.requires.unsealed c.seal.ensures
    (came-back c.seal.new.self c.finish.result c.in-Ok.shared.start c.in-Ok.pass.seen c.drain_shared-end.new.pass.seen c.in-Ok.ensures.start (ap (λ p. p.seen) c.in-Ok.ensures.pass)
    c.drain_shared-end.ensures.seen c.finish.ensures.start c.finish.ensures.seen)

pub returns-in-Err : goal.returns-in-Err
returns-in-Err g c = sealed-back c.args.wiki c.seal.new.self c.in-Err.wiki c.requires.unsealed c.seal.ensures (not-shared c.seal.new.self c.in-Err.wiki c.in-Err.ensures.refused)
