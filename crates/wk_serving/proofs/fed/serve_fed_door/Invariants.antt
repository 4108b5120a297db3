use Rattle.std.proofs.Common.{All}
use Rattle.wk_refresh.specs.Drained.{IsFree}
use Rattle.wk_serving.proofs.fed.serve_fed_door.Given as goal

abbrev pub invariant-rounds : goal.invariant-rounds
invariant-rounds g l = All (λ w. IsFree l.shared w.reader.pass) l.workers
