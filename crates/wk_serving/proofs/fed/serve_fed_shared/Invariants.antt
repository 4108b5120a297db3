use Rattle.std.specs.Prelude.{Some}
use Rattle.wk_door.specs.Told.{counts_of}
use Rattle.wk_serving.proofs.fed.serve_fed_shared.Given as goal

abbrev pub ghosts-serve_fed_door-E-Entry : goal.ghosts-serve_fed_door-E-Entry
ghosts-serve_fed_door-E-Entry g a = record { told = counts_of (g.D.Door.told a.door.now); faults = g.D.Door.faults a.door.now; most = a.most; name = Some a.door.ghost_name }

abbrev pub ghosts-serve_fed_door-F-Begins : goal.ghosts-serve_fed_door-F-Begins
ghosts-serve_fed_door-F-Begins g a = record { told = g.O.Sink.taken a.output.now; faults = g.O.Sink.faults a.output.now; turn = Some a.shared; name = Some a.output.ghost_name }
