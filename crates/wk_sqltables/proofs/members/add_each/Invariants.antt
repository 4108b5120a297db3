use Rattle.std.proofs.Common.{◌≡◌, ◌++◌, map, take, IsTrue}
use Rattle.sqlite.specs.Held.{state}
use Rattle.sqlite.specs.State.{HasCleanDisk, KeepsCommit, Survives}
use Rattle.wk_table_rules.specs.Changes.{category_row}
use Rattle.wk_table_rows.specs.Members.{member_of}
use Rattle.wk_sqltables.specs.Entries.{member_values}
use Rattle.wk_sqltables.specs.Statements.{add_member_text}
use Rattle.wk_sqltables.specs.Held.{RewritesAll}
use Rattle.wk_sqltables.proofs.members.add_each.Given as goal

abbrev pub invariant-members : goal.invariant-members
invariant-members g l =
    let old = state g.S.Store l.fn.transaction.conn.now in
    let now = state g.S.Store l.transaction.conn.now in
    record {
      same : l.transaction.conn.ghost_name ≡ l.fn.transaction.conn.ghost_name;
      survives : Survives old now (λ _. ⊥);
      made : HasCleanDisk now → l.insert.text ≡ add_member_text → RewritesAll 9 member_values (λ rows. rows ++ map (category_row l.page) (map member_of (take l.member-index l.members))) old now;
      inside : HasCleanDisk now → IsTrue old.in_transaction → IsTrue now.in_transaction;
      kept : HasCleanDisk now → IsTrue old.in_transaction → KeepsCommit old now;
    }
