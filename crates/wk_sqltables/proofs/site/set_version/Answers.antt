use Rattle.std.proofs.Common.{rules, Ok, [], ◌∷◌}
use Rattle.sqlite_value.specs.declared.value.Value.TheVariants.{Text}
use Rattle.sqlite.specs.Held.{state}
use Rattle.sqlite.specs.State.{ExecutesInside}
use Rattle.wk_sqltables.specs.Statements.{set_version_text}
use Rattle.wk_sqltables.proofs.Inside.{inside_keeps, ran_inside}
use Rattle.wk_sqltables.proofs.VersionSets.{sets_version}
use Rattle.wk_sqltables.proofs.site.set_version.Goals as goal

pub returns-clause-made : goal.returns-clause-made
returns-clause-made g c clean tables holds fit =
    let old = state g.S.Store c.args.transaction.now.conn.now in
    let new = state g.S.Store c.run_set.new.transaction.conn.now in
    let ran : ExecutesInside 0 set_version_text (Text c.as_str.result.now ∷ []) old new (Ok c.in_ok-run_set.field-0) = search (rules, holds.inside) in
    sets_version old new c.in_ok-run_set.field-0 c.args.version (rw (c.as_str.ensures.value, c.in_ok-value.ensures.ok) at ran) tables holds fit

pub returns-clause-kept : goal.returns-clause-kept
returns-clause-kept g c clean inside = inside_keeps _ _ _ _ _ (c.run_set.ensures.runs clean inside)

pub returns-clause-inside : goal.returns-clause-inside
returns-clause-inside g c clean inside = ran_inside _ _ _ _ _ (c.run_set.ensures.runs clean inside) c.in_ok-run_set.was
