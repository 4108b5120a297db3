use Rattle.wk_sqlkeeper.proofs.adoption.run.Goals as goal

pub returns-in-Ok-clause-ran : goal.returns-in-Ok-clause-ran
returns-in-Ok-clause-ran g c clean inside = (_, c.in-Ok.ensures.runs clean inside)

pub returns-in-Err-clause-ran : goal.returns-in-Err-clause-ran
returns-in-Err-clause-ran g c clean inside = c.in-Err.ensures.runs clean inside
