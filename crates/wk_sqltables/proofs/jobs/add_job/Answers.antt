use Rattle.std.proofs.Common.{◌≡◌, rules, Ok, w64, to_z, of_z, subst}
use Rattle.sqlite.specs.Held.{state}
use Rattle.sqlite.specs.State.{ExecutesInside}
use Rattle.wk_table_rules.specs.Rows.{JobColumns}
use Rattle.wk_sqltables.specs.Entries.{job_values}
use Rattle.wk_sqltables.specs.Statements.{add_job_text}
use Rattle.wk_sqltables.proofs.Inside.{inside_keeps, ran_inside}
use Rattle.wk_sqltables.proofs.JobSets.{adds_job}
use Rattle.wk_sqltables.proofs.jobs.add_job.Goals as goal

pub returns-clause-made : goal.returns-clause-made
returns-clause-made g c clean tables holds fit =
    let old = state g.S.Store c.args.transaction.now.conn.now in
    let new = state g.S.Store c.run_add.new.transaction.conn.now in
    let count = c.in_ok-run_add.field-0 in
    let id : to_z w64 (of_z w64 c.in_ok-id.id) ≡ c.in_ok-id.id = search rules in
    let wide : to_z w64 (of_z w64 c.row.inside.job_namespace) ≡ c.row.inside.job_namespace = search rules in
    let ran = rw (c.in_ok-run_add.was, id, c.in_ok-id.ensures.value, c.as_str.ensures.value, c.as_str-2.ensures.value, c.as_str-3.ensures.value, wide) at (c.run_add.ensures.runs clean holds.inside) in
    adds_job old new count c.args.row.now (subst (λ (job : JobColumns). ExecutesInside 0 add_job_text (job_values job) old new (Ok count)) c.row.view_is ran) tables holds fit

pub returns-clause-kept : goal.returns-clause-kept
returns-clause-kept g c clean inside = inside_keeps _ _ _ _ _ (c.run_add.ensures.runs clean inside)

pub returns-clause-inside : goal.returns-clause-inside
returns-clause-inside g c clean inside = ran_inside _ _ _ _ _ (c.run_add.ensures.runs clean inside) c.in_ok-run_add.was
