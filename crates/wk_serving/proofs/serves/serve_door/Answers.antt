use Rattle.wk_serving.proofs.serves.serve_door.Goals as goal

pub serve_rounds-requires-clause-ready : goal.serve_rounds-requires-clause-ready
serve_rounds-requires-clause-ready g c = λ κs bounds k d within. (c.requires.free k d within, c.requires.unsealed)

pub returns-clause-free : goal.returns-clause-free
returns-clause-free g c = λ k d within. (c.serve_rounds.ensures.ready k d within).0
