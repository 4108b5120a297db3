use Rattle.wk_serving.proofs.fed.serve_fed_round.Goals as goal

pub serve_all-requires-after_bounds : goal.serve_all-requires-after_bounds
serve_all-requires-after_bounds g c κs bounds = λ k d within. (c.requires.free k d within, c.requires.unsealed, c.requires.turn)

pub returns : goal.returns
returns g c = λ k d within. (c.serve_all.ensures k d within).0
