use Rattle.std.proofs.Common.{◌≡◌, rules, Ok, w64, to_z, of_z, subst}
use Rattle.sqlite.specs.Held.{state}
use Rattle.sqlite.specs.State.{ExecutesInside}
use Rattle.wk_table_rules.specs.Rows.{PageColumns}
use Rattle.wk_sqltables.specs.Entries.{page_values}
use Rattle.wk_sqltables.specs.Statements.{set_page_text}
use Rattle.wk_sqltables.proofs.Inside.{inside_keeps, ran_inside}
use Rattle.wk_sqltables.proofs.PageSets.{sets_page}
use Rattle.wk_sqltables.proofs.pages.set_page.Goals as goal

pub returns-clause-made : goal.returns-clause-made
returns-clause-made g c clean tables holds fit =
    let old = state g.S.Store c.args.transaction.now.conn.now in
    let new = state g.S.Store c.run_set.new.transaction.conn.now in
    let count = c.in_ok-run_set.field-0 in
    let id : to_z w64 (of_z w64 c.in_ok-id.id) ≡ c.in_ok-id.id = search rules in
    let latest : to_z w64 (of_z w64 c.in_ok-latest.latest) ≡ c.in_ok-latest.latest = search rules in
    let len : to_z w64 (of_z w64 c.in_ok-len.len) ≡ c.in_ok-len.len = search rules in
    let wide : to_z w64 (of_z w64 c.row.inside.page_namespace) ≡ c.row.inside.page_namespace = search rules in
    let ran = rw (c.in_ok-run_set.was, id, latest, len, c.in_ok-id.ensures.value, c.in_ok-latest.ensures.value, c.in_ok-len.ensures.value, c.as_str.ensures.value, wide) at (c.run_set.ensures.runs clean holds.inside) in
    sets_page old new count c.args.row.now (subst (λ (page : PageColumns). ExecutesInside 0 set_page_text (page_values page) old new (Ok count)) c.row.view_is ran) tables holds fit

pub returns-clause-kept : goal.returns-clause-kept
returns-clause-kept g c clean inside = inside_keeps _ _ _ _ _ (c.run_set.ensures.runs clean inside)

pub returns-clause-inside : goal.returns-clause-inside
returns-clause-inside g c clean inside = ran_inside _ _ _ _ _ (c.run_set.ensures.runs clean inside) c.in_ok-run_set.was
