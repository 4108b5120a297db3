use Rattle.std.proofs.Common.{rules, Ok, [], ◌∷◌}
use Rattle.sqlite_value.specs.declared.value.Value.TheVariants.{Int}
use Rattle.sqlite.specs.Held.{state}
use Rattle.sqlite.specs.State.{ExecutesInside}
use Rattle.wk_sqltables.specs.Statements.{drop_redirect_text}
use Rattle.wk_sqltables.proofs.Inside.{inside_keeps, ran_inside}
use Rattle.wk_sqltables.proofs.RedirectSets.{drops_redirect}
use Rattle.wk_sqltables.proofs.redirects.drop_redirect.Goals as goal

pub returns-clause-made : goal.returns-clause-made
returns-clause-made g c clean tables holds =
    let old = state g.S.Store c.args.transaction.now.conn.now in
    let new = state g.S.Store c.run_drop.new.transaction.conn.now in
    let ran : ExecutesInside 0 drop_redirect_text (Int c.from.result ∷ []) old new (Ok c.in_ok-run_drop.field-0) = search (rules, holds.inside) in
    drops_redirect old new c.in_ok-run_drop.field-0 c.args.page (rw c.from.ensures at ran) tables holds

pub returns-clause-inside : goal.returns-clause-inside
returns-clause-inside g c clean inside = ran_inside _ _ _ _ _ (c.run_drop.ensures.runs clean inside) c.in_ok-run_drop.was

pub returns-clause-kept : goal.returns-clause-kept
returns-clause-kept g c clean inside = inside_keeps _ _ _ _ _ (c.run_drop.ensures.runs clean inside)
