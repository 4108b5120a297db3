use Rattle.std.proofs.Common.{OnOk, [], rules, subst}
use Rattle.sqlite.proofs.Callers.{memory_is_clean}
use Rattle.sqlite.specs.Held.{state}
use Rattle.sqlite.specs.Steps.{over_memory}
use Rattle.wk_table_rules.specs.Rows.{StoreTables}
use Rattle.wk_sqltables.specs.Held.{Holds}
use Rattle.wk_sqltables.proofs.Inside.{on_ok}
use Rattle.wk_sqlkeeper.specs.Older.{HoldsOlder}
use Rattle.wk_sqlmemory.specs.Told.{KeepsOlderTables, KeepsTables}
use Rattle.wk_stop_tests.proofs.Drops.{older_again}
use Rattle.wk_stop_tests.proofs.older.make_older.Goals as goal

pub returns : goal.returns
returns c =
    let old = c.args.connection.now in
    let mid = c.drop_redirect.new.transaction.conn.now in
    let end = c.commit.new.self.0 in
    let begun = c.transaction-transaction.ensures.begun in
    let drops = subst (λ h. (tables : StoreTables) → Holds (state over_memory h) tables → HoldsOlder (state over_memory mid) (record tables { redirects = [] })) begun c.in_ok-drop_redirect.ensures.dropped in
    let all : OnOk c.commit.result (∥ KeepsTables (state over_memory old) ∥₁ → ∥ KeepsOlderTables (state over_memory end) ∥₁) = on_ok c.commit.result (c.commit.ensures.ok (memory_is_clean end)) (λ ended.
    older_again over_memory old (state over_memory mid) (state over_memory end) drops ended.1) in
    search rules
