use Rattle.std.proofs.Common.{◌≡◌, rules, arith, w8, to_z, of_z, Ok, [], ◌∷◌}
use Rattle.std.proofs.lemmas.Int.{ints}
use Rattle.sqlite_value.specs.declared.value.Value.TheVariants.{Int, Text}
use Rattle.sqlite.specs.Held.{state}
use Rattle.sqlite.specs.State.{ExecutesInside}
use Rattle.wk_table_rules.specs.Changes.{redirect_row}
use Rattle.wk_sqltables.specs.Statements.{add_redirect_text}
use Rattle.wk_sqltables.proofs.Inside.{inside_keeps, ran_inside}
use Rattle.wk_sqltables.proofs.RedirectSets.{adds_redirect}
use Rattle.wk_sqltables.proofs.redirects.add_redirect.Goals as goal

pub returns-clause-made : goal.returns-clause-made
returns-clause-made g c clean tables holds =
    let old = state g.S.Store c.args.transaction.now.conn.now in
    let new = state g.S.Store c.run_add.new.transaction.conn.now in
    let ran : ExecutesInside 0 add_redirect_text (Int c.from.result ∷ Int c.from-2.result ∷ Text c.key.result.now ∷ []) old new (Ok c.in_ok-run_add.field-0) = search (rules, holds.inside) in
    let narrow : to_z w8 (of_z w8 c.ns.result) ≡ c.ns.result = first_of (search rules, omega (arith, ints)) in
    adds_redirect old new c.in_ok-run_add.field-0 (redirect_row c.args.page c.args.title.now) (rw (c.from.ensures, c.from-2.ensures, narrow, c.ns.ensures, c.key.ensures.value) at ran) tables holds

pub returns-clause-inside : goal.returns-clause-inside
returns-clause-inside g c clean inside = ran_inside _ _ _ _ _ (c.run_add.ensures.runs clean inside) c.in_ok-run_add.was

pub returns-clause-kept : goal.returns-clause-kept
returns-clause-kept g c clean inside = inside_keeps _ _ _ _ _ (c.run_add.ensures.runs clean inside)
