use Rattle.std.proofs.Common.{◌≡◌, ◌∙◌, rules, Ok, w64, to_z, of_z, [], ◌∷◌}
use Rattle.sqlite_value.specs.declared.value.Value.TheVariants.{Int}
use Rattle.sqlite_value.specs.Order.{column}
use Rattle.sqlite.specs.Held.{state}
use Rattle.wk_table_rules.specs.Changes.{namespace_of}
use Rattle.wk_sqltables.specs.Statements.{page_namespace_text}
use Rattle.wk_sqltables.proofs.Queries.{row_keeps, still_holds, finds_namespace, read_number}
use Rattle.wk_sqltables.proofs.all_rows.page_numbered.Goals as goal

pub returns-clause-namespace : goal.returns-clause-namespace
returns-clause-namespace g c clean tables holds has =
    let old = state g.S.Store c.args.transaction.now.conn.now in
    let new = state g.S.Store c.run_find.new.transaction.conn.now in
    let page : to_z w64 (of_z w64 c.from.result) ≡ c.from.result = search rules in
    let found = rw (c.in_ok-row.was, page, c.from.ensures) at (c.run_find.ensures.runs clean) in
    let cells = c.in_ok-row.row in
    let namespace = c.in_ok-namespace.namespace in
    let wide : to_z w64 (of_z w64 namespace) ≡ namespace = search rules in
    let read : column cells 0 ≡ Int namespace = search (rules, c.in_ok-namespace.ensures.ok) in
    wide ∙ read_number cells namespace (namespace_of tables c.args.page) (finds_namespace old new c.args.page cells found tables holds has) read

pub returns-clause-made : goal.returns-clause-made
returns-clause-made g c clean tables holds =
    let old = state g.S.Store c.args.transaction.now.conn.now in
    let new = state g.S.Store c.run_find.new.transaction.conn.now in
    let page : to_z w64 (of_z w64 c.from.result) ≡ c.from.result = search rules in
    let found = rw (c.in_ok-row.was, page, c.from.ensures) at (c.run_find.ensures.runs clean) in
    still_holds old new c.args.page c.in_ok-row.row found tables holds

pub returns-clause-inside : goal.returns-clause-inside
returns-clause-inside g c clean inside =
    let old = state g.S.Store c.args.transaction.now.conn.now in
    let new = state g.S.Store c.run_find.new.transaction.conn.now in
    let page : to_z w64 (of_z w64 c.from.result) ≡ c.from.result = search rules in
    let found = rw (c.in_ok-row.was, page) at (c.run_find.ensures.runs clean) in
    (row_keeps page_namespace_text (Int c.from.result ∷ []) old new inside (Ok c.in_ok-row.row) found).1

pub returns-clause-kept : goal.returns-clause-kept
returns-clause-kept g c clean inside = (row_keeps _ _ _ _ inside _ (c.run_find.ensures.runs clean)).0

pub returns-in_err-row-clause-kept : goal.returns-in_err-row-clause-kept
returns-in_err-row-clause-kept g c clean inside = (row_keeps _ _ _ _ inside _ (c.run_find.ensures.runs clean)).0

pub returns-in_err-namespace-clause-kept : goal.returns-in_err-namespace-clause-kept
returns-in_err-namespace-clause-kept g c clean inside = (row_keeps _ _ _ _ inside _ (c.run_find.ensures.runs clean)).0
