use Rattle.std.proofs.Common.{inl, inr}
use Rattle.wk_commands.specs.Texts.{listening_line}
use Rattle.wk_commands.proofs.Served.{begun-by, ended-by, not-listening}
use Rattle.wk_commands.proofs.serves.begin.Goals as goal

pub returns-in-Ok-clause-begun : goal.returns-in-Ok-clause-begun
returns-in-Ok-clause-begun g c =
    begun-by c.args.address.now (g.D.Door.told c.args.door.now) (g.D.Door.told c.listen.new.self) (g.D.Door.faults c.args.door.now) (g.D.Door.faults c.listen.new.self)
    (g.O.Sink.taken c.args.output.now) (g.O.Sink.taken c.write_line.new.output) c.write_line.result c.in-Ok.ensures.listens c.in-Ok.ensures.no_fault
    (c.write_line.ensures.line (listening_line c.args.address.now) c.listening_text.ensures)

pub returns-in-Ok-clause-ended : goal.returns-in-Ok-clause-ended
returns-in-Ok-clause-ended g c =
    ended-by c.args.address.now (g.D.Door.told c.args.door.now) (g.D.Door.told c.listen.new.self) (g.D.Door.faults c.args.door.now) (g.D.Door.faults c.listen.new.self)
    (g.O.Sink.taken c.args.output.now) (g.O.Sink.taken c.write_line.new.output) c.write_line.result c.in-Ok.ensures.listens
    (c.write_line.ensures.line (listening_line c.args.address.now) c.listening_text.ensures)

pub returns-in-Err-clause-ended : goal.returns-in-Err-clause-ended
returns-in-Err-clause-ended g c = λ most.
    not-listening c.args.address.now (g.D.Door.told c.args.door.now) (g.D.Door.told c.listen.new.self) (g.D.Door.faults c.args.door.now) (g.D.Door.faults c.listen.new.self)
    (g.O.Sink.taken c.args.output.now) most c.in-Err.ensures.refused c.in-Err.ensures.cause

pub returns-in-Ok-clause-listens : goal.returns-in-Ok-clause-listens
returns-in-Ok-clause-listens g c = inl c.in-Ok.ensures.listens

pub returns-in-Err-clause-listens : goal.returns-in-Err-clause-listens
returns-in-Err-clause-listens g c = inr c.in-Err.ensures.refused
