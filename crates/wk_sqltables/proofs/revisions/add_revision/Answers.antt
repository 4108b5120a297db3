use Rattle.std.proofs.Common.{◌≡◌, ap}
use Rattle.sqlite.specs.Held.{state}
use Rattle.wk_table_rules.specs.Rows.{RevisionColumns}
use Rattle.wk_sqltables.proofs.Inside.{inside_keeps, ran_inside}
use Rattle.wk_sqltables.proofs.RevisionAdds.{adds_revision}
use Rattle.wk_sqltables.proofs.revisions.add_revision.Goals as goal

pub returns-clause-made : goal.returns-clause-made
returns-clause-made g c clean tables holds fit =
    let old = state g.S.Store c.args.transaction.now.conn.now in
    let new = state g.S.Store c.run_add.new.transaction.conn.now in
    let count = c.in_ok-run_add.field-0 in
    let text : c.row.inside.rev_text ≡ c.args.row.now.rev_text = ap (λ (r : RevisionColumns). r.rev_text) c.row.view_is in
    let ran = rw (c.in_ok-run_add.was, c.in_ok-numbers.ensures, c.as_str.ensures.value, text) at (c.run_add.ensures.runs clean holds.inside) in
    adds_revision old new count c.args.row.now ran tables holds fit

pub returns-clause-kept : goal.returns-clause-kept
returns-clause-kept g c clean inside = inside_keeps _ _ _ _ _ (c.run_add.ensures.runs clean inside)

pub returns-clause-inside : goal.returns-clause-inside
returns-clause-inside g c clean inside = ran_inside _ _ _ _ _ (c.run_add.ensures.runs clean inside) c.in_ok-run_add.was
