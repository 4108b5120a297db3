use Rattle.wk_crew.proofs.rounds.serve_links.Given as goal

abbrev pub invariant-links : goal.invariant-links
invariant-links g l = g.S.Crew.ready l.crew l.worker
