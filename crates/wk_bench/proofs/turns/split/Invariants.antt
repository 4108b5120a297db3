use Rattle.std.proofs.Common.{◌≡◌, None, All}
use Rattle.wk_turn.specs.Told.{IsOf}
use Rattle.wk_bench.proofs.turns.split.Given as goal

abbrev pub invariant-splitting : goal.invariant-splitting
invariant-splitting l = (l.pass ≡ l.fn.pass) × All (λ p. IsOf l.turn p × (p.held ≡ None)) l.passes.items
