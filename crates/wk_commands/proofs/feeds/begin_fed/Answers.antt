use Rattle.std.proofs.Common.{inl, inr, refl}
use Rattle.wk_commands.specs.Fed.{broken}
use Rattle.wk_commands.proofs.Fed.{fed-begun, fed-ended}
use Rattle.wk_commands.proofs.feeds.begin_fed.Goals as goal

pub returns-in-Ok-clause-begun : goal.returns-in-Ok-clause-begun
returns-in-Ok-clause-begun g c =
    fed-begun c.args.address.now (g.D.Door.told c.args.door.now) (g.D.Door.told c.listen.new.self) (g.D.Door.faults c.args.door.now) (g.D.Door.faults c.listen.new.self)
    (g.O.Sink.taken c.args.output.now) (g.O.Sink.taken c.write_start.new.output) c.args.wiki.now.start.state c.write_start.result c.in-Ok.ensures.listens c.in-Ok.ensures.no_fault c.write_start.ensures.sent

pub returns-in-Ok-clause-ended : goal.returns-in-Ok-clause-ended
returns-in-Ok-clause-ended g c =
    fed-ended c.args.address.now (g.D.Door.told c.args.door.now) (g.D.Door.told c.listen.new.self) (g.D.Door.faults c.args.door.now) (g.D.Door.faults c.listen.new.self)
    (g.O.Sink.taken c.args.output.now) (g.O.Sink.taken c.write_start.new.output) c.write_start.result c.write_start.ensures.ends

pub returns-in-Err-clause-ended : goal.returns-in-Err-clause-ended
returns-in-Err-clause-ended g c = λ most from events. broken c.in-Err.ensures.cause (inl (c.in-Err.ensures.refused, refl))

pub returns-in-Ok-clause-listens : goal.returns-in-Ok-clause-listens
returns-in-Ok-clause-listens g c = inl c.in-Ok.ensures.listens

pub returns-in-Err-clause-listens : goal.returns-in-Err-clause-listens
returns-in-Err-clause-listens g c = inr c.in-Err.ensures.refused
