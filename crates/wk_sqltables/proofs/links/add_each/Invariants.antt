use Rattle.std.proofs.Common.{◌≡◌, ◌++◌, map, take, IsTrue}
use Rattle.sqlite.specs.Held.{state}
use Rattle.sqlite.specs.State.{HasCleanDisk, KeepsCommit, Survives}
use Rattle.wk_table_rules.specs.Changes.{link_row}
use Rattle.wk_sqltables.specs.declared.links.LinkTable.{LinkTable}
use Rattle.wk_sqltables.specs.Entries.{link_values}
use Rattle.wk_sqltables.specs.LinkTables.{tree_of, add_link_text}
use Rattle.wk_sqltables.specs.Held.{RewritesAll}
use Rattle.wk_sqltables.proofs.links.add_each.Given as goal

abbrev pub invariant-titles : goal.invariant-titles
invariant-titles g l =
    let old = state g.S.Store l.fn.transaction.conn.now in
    let now = state g.S.Store l.transaction.conn.now in
    record {
      same : l.transaction.conn.ghost_name ≡ l.fn.transaction.conn.ghost_name;
      survives : Survives old now (λ _. ⊥);
      made : HasCleanDisk now → (table : LinkTable) → l.insert.text ≡ add_link_text table → RewritesAll (tree_of table) link_values (λ links. links ++ map (link_row l.from.page l.from.namespace) (take l.title-index l.titles)) old now;
      inside : HasCleanDisk now → IsTrue old.in_transaction → IsTrue now.in_transaction;
      kept : HasCleanDisk now → IsTrue old.in_transaction → KeepsCommit old now;
    }
