use Rattle.std.proofs.Common.{ltb}
use Rattle.wk_table_rows.proofs.FirstPlace.{place-Some, place-None}
use Rattle.wk_table_rows.proofs.own_rows.place_behind.Goals as goal

pub returns-in-Some-clause-place : goal.returns-in-Some-clause-place
returns-in-Some-clause-place g c = place-Some (λ row. ltb c.args.page (g.T.Numbered.number row)) c.args.rows.now c.in-Some.place c.in-Some.ensures

pub returns-in-None-clause-place : goal.returns-in-None-clause-place
returns-in-None-clause-place g c = place-None (λ row. ltb c.args.page (g.T.Numbered.number row)) c.args.rows.now c.in-None.ensures
