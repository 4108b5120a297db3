use Rattle.std.proofs.Common.{rules, Ok, [], ◌∷◌}
use Rattle.sqlite_value.specs.declared.value.Value.TheVariants.{Int}
use Rattle.sqlite.specs.Held.{state}
use Rattle.sqlite.specs.State.{ExecutesInside}
use Rattle.wk_sqltables.specs.Statements.{drop_job_text}
use Rattle.wk_sqltables.proofs.Inside.{inside_keeps, ran_inside}
use Rattle.wk_sqltables.proofs.JobSets.{drops_job}
use Rattle.wk_sqltables.proofs.jobs.drop_job.Goals as goal

pub returns-clause-made : goal.returns-clause-made
returns-clause-made g c clean tables holds fit =
    let old = state g.S.Store c.args.transaction.now.conn.now in
    let new = state g.S.Store c.run_drop.new.transaction.conn.now in
    let ran : ExecutesInside 0 drop_job_text (Int c.in_ok-id.id ∷ []) old new (Ok c.in_ok-run_drop.field-0) = search (rules, holds.inside) in
    drops_job old new c.in_ok-run_drop.field-0 c.args.id (rw c.in_ok-id.ensures.value at ran) tables holds fit

pub returns-clause-kept : goal.returns-clause-kept
returns-clause-kept g c clean inside = inside_keeps _ _ _ _ _ (c.run_drop.ensures.runs clean inside)

pub returns-clause-inside : goal.returns-clause-inside
returns-clause-inside g c clean inside = ran_inside _ _ _ _ _ (c.run_drop.ensures.runs clean inside) c.in_ok-run_drop.was
