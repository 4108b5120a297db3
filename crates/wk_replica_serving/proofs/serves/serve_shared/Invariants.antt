use Rattle.std.specs.Prelude.{Some}
use Rattle.wk_door.specs.Told.{counts_of}
use Rattle.wk_replica_serving.proofs.serves.serve_shared.Given as goal

abbrev pub ghosts-serve_door : goal.ghosts-serve_door
ghosts-serve_door g a = record { told = counts_of (g.D.Door.told a.door.now); faults = g.D.Door.faults a.door.now; most = a.most; name = Some a.door.ghost_name }
