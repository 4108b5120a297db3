use Rattle.std.proofs.Common.{subst}
use Rattle.sqlite.specs.Held.{state}
use Rattle.wk_sqltables.specs.StoreSchema.{revision_table}
use Rattle.wk_sqlkeeper.specs.Making.{Ran, revision_made, schema_1}
use Rattle.wk_sqlkeeper.proofs.Makings.{ran_makes, makes_revision, ran_inside, ran_kept}
use Rattle.wk_sqlkeeper.proofs.adoption.make_revision.Goals as goal

pub returns-clause-made : goal.returns-clause-made
returns-clause-made g c clean =
    let old = state g.S.Store c.args.transaction.now.conn.now in
    let new = state g.S.Store c.run.new.transaction.conn.now in
    ran_makes revision_made old new schema_1 revision_table makes_revision c.run.result (λ inside. subst (λ text. Ran text old new c.run.result) c.revision_text.ensures (c.run.ensures.ran clean inside))

pub returns-clause-inside : goal.returns-clause-inside
returns-clause-inside g c clean = ran_inside _ _ _ c.run.result (c.run.ensures.ran clean)

pub returns-clause-kept : goal.returns-clause-kept
returns-clause-kept g c clean inside = ran_kept _ _ _ c.run.result (c.run.ensures.ran clean inside)
