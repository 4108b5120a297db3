use Rattle.std.proofs.Common.{◌≡◌, None}
use Rattle.wk_turn.specs.Told.{IsOf}
use Rattle.wk_bench.proofs.turns.work.Given as goal

abbrev pub invariant-turns : goal.invariant-turns
invariant-turns g l = IsOf l.turn l.pass × (l.pass.held ≡ None)
