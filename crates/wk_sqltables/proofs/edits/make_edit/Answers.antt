use Rattle.std.proofs.Common.{OnOk, sym, subst}
use Rattle.sqlite.specs.Held.{state}
use Rattle.wk_tables.specs.Edits.{edit_of}
use Rattle.wk_tables.specs.declared.change.RowEdit.{RowEdit}
use Rattle.wk_sqltables.specs.Held.{Makes}
use Rattle.wk_sqltables.specs.Edits.{IsOrdered}
use Rattle.wk_sqltables.proofs.Inside.{on_ok}
use Rattle.wk_sqltables.proofs.edits.make_edit.Goals as goal

pub returns-in-SetVersion-clause-made : goal.returns-in-SetVersion-clause-made
returns-in-SetVersion-clause-made g c clean =
    let old = state g.S.Store c.args.transaction.now.conn.now in
    let new = state g.S.Store c.set_version.new.transaction.conn.now in
    subst (λ (e : RowEdit). OnOk c.set_version.result (IsOrdered (edit_of e) → Makes old new (edit_of e))) (sym c.in-SetVersion.is) (on_ok c.set_version.result (c.set_version.ensures.made clean) (λ makes ordered. makes))
