use Rattle.std.proofs.Common.{subst}
use Rattle.sqlite.specs.Held.{state}
use Rattle.wk_sqltables.specs.StoreSchema.{store_schema, redirect_table}
use Rattle.wk_sqlkeeper.specs.Making.{Ran, redirect_made, schema_8}
use Rattle.wk_sqlkeeper.proofs.Makings.{ran_makes, makes_redirect, ran_never, redirect_in_store, ran_inside, ran_kept}
use Rattle.wk_sqlkeeper.proofs.Olders.{ran_whole}
use Rattle.wk_sqlkeeper.proofs.adoption.make_redirect.Goals as goal

pub returns-clause-made : goal.returns-clause-made
returns-clause-made g c clean =
    let old = state g.S.Store c.args.transaction.now.conn.now in
    let new = state g.S.Store c.run.new.transaction.conn.now in
    ran_makes redirect_made old new schema_8 redirect_table makes_redirect c.run.result (λ inside. subst (λ text. Ran text old new c.run.result) c.redirect_text.ensures (c.run.ensures.ran clean inside))

pub returns-clause-inside : goal.returns-clause-inside
returns-clause-inside g c clean = ran_inside _ _ _ c.run.result (c.run.ensures.ran clean)

pub returns-clause-kept : goal.returns-clause-kept
returns-clause-kept g c clean inside = ran_kept _ _ _ c.run.result (c.run.ensures.ran clean inside)

pub returns-clause-whole : goal.returns-clause-whole
returns-clause-whole g c clean =
    let old = state g.S.Store c.args.transaction.now.conn.now in
    let new = state g.S.Store c.run.new.transaction.conn.now in
    ran_whole old new c.run.result (λ inside. subst (λ text. Ran text old new c.run.result) c.redirect_text.ensures (c.run.ensures.ran clean inside))

pub returns-clause-never : goal.returns-clause-never
returns-clause-never g c clean inside =
    let old = state g.S.Store c.args.transaction.now.conn.now in
    let new = state g.S.Store c.run.new.transaction.conn.now in
    ran_never redirect_made old new store_schema redirect_in_store c.run.result (subst (λ text. Ran text old new c.run.result) c.redirect_text.ensures (c.run.ensures.ran clean inside))
