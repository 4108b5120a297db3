use Rattle.std.proofs.Common.{◌≡◌, None, All, vec_len}
use Rattle.wk_turn.specs.Told.{IsOf}
use Rattle.wk_bench.proofs.turns.join.Given as goal

abbrev pub invariant-joining : goal.invariant-joining
invariant-joining l = IsOf l.turn l.pass × (l.pass.held ≡ None) × All (λ p. IsOf l.turn p × (p.held ≡ None)) l.passes.items

abbrev pub decreases-joining : goal.decreases-joining
decreases-joining l = vec_len l.passes
