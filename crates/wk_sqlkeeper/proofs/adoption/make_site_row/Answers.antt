use Rattle.sqlite.specs.Held.{state}
use Rattle.wk_sqlkeeper.proofs.Makings.{ran_inside, ran_kept, ran_none}
use Rattle.wk_sqlkeeper.proofs.adoption.make_site_row.Goals as goal

pub returns-clause-made : goal.returns-clause-made
returns-clause-made g c clean = ran_none (state g.S.Store c.args.transaction.now.conn.now) (state g.S.Store c.run.new.transaction.conn.now) c.run.result (c.run.ensures.ran clean)

pub returns-clause-inside : goal.returns-clause-inside
returns-clause-inside g c clean = ran_inside _ _ _ c.run.result (c.run.ensures.ran clean)

pub returns-clause-kept : goal.returns-clause-kept
returns-clause-kept g c clean inside = ran_kept _ _ _ c.run.result (c.run.ensures.ran clean inside)
