use Rattle.std.proofs.Common.{All}
use Rattle.wk_crew.proofs.rounds.serve_rounds.Given as goal

abbrev pub invariant-rounds : goal.invariant-rounds
invariant-rounds g l = All (λ w. g.S.Crew.ready l.crew w) l.workers
