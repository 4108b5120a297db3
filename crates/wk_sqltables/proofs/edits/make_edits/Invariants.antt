use Rattle.std.proofs.Common.{◌≡◌, map, take, IsTrue}
use Rattle.sqlite.specs.Held.{state}
use Rattle.sqlite.specs.State.{HasCleanDisk, KeepsCommit, Survives}
use Rattle.wk_tables.specs.Edits.{edit_of}
use Rattle.wk_sqltables.specs.Edits.{MakesAll}
use Rattle.wk_sqltables.proofs.edits.make_edits.Given as goal

abbrev pub invariant-edits : goal.invariant-edits
invariant-edits g l =
    let old = state g.S.Store l.fn.transaction.conn.now in
    let now = state g.S.Store l.transaction.conn.now in
    record {
      same : l.transaction.conn.ghost_name ≡ l.fn.transaction.conn.ghost_name;
      survives : Survives old now (λ _. ⊥);
      made : HasCleanDisk now → MakesAll old now (map edit_of (take l.edit-index l.edits));
      inside : HasCleanDisk now → IsTrue old.in_transaction → IsTrue now.in_transaction;
      kept : HasCleanDisk now → IsTrue old.in_transaction → KeepsCommit old now;
    }
