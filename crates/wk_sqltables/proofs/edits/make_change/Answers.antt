use Rattle.std.proofs.Common.{◌≡◌, ◌∙◌, rules, arith, OnErr, IsTrue, List, map, refl, sym, ap, subst}
use Rattle.sqlite.specs.Held.{state}
use Rattle.sqlite.specs.State.{HasCleanDisk, KeepsCommit}
use Rattle.wk_table_rules.specs.Rows.{StoreTables}
use Rattle.wk_table_rules.specs.Changes.{TableEdit, applied}
use Rattle.wk_tables.specs.Edits.{edit_of}
use Rattle.wk_sqltables.specs.Edits.{Keeps, MakesAll}
use Rattle.wk_sqltables.proofs.Inside.{on_ok}
use Rattle.wk_sqltables.proofs.Changes.{undone, begins, committed, commit_refused, on_err, each_on_err}
use Rattle.wk_sqltables.proofs.edits.make_change.Goals as goal

pub returns-in_err-make_edits-clause-refused : goal.returns-in_err-make_edits-clause-refused
returns-in_err-make_edits-clause-refused g c clean is_open =
    let old = c.args.connection.now in
    let mid = c.make_edits.new.transaction.conn.now in
    let end = c.drop-transaction.new.self.0 in
    let same : end ≡ c.connection-1.given.0 = search rules in
    let late : HasCleanDisk (state g.S.Store end) = subst (λ h. HasCleanDisk (state g.S.Store h)) (sym same) clean in
    let begun = c.transaction-transaction.ensures.begun in
    let k = rw begun at (c.make_edits.ensures.kept (omega (arith, c.drop-transaction.ensures.survives.clean, late)) (rw begun refl)) in
    let kept : KeepsCommit (state g.S.Store old) (state g.S.Store mid) = record { was_open = k.was_open; committed = k.committed } in
    on_err c.from_residual.result (λ tables keeps.
    subst (λ h. Keeps (state g.S.Store h) tables) same
    (undone (state g.S.Store old) (state g.S.Store mid) (state g.S.Store end) tables keeps kept (c.drop-transaction.ensures.undone late) (subst (λ h. IsTrue (state g.S.Store h).is_open) (sym same) is_open)))

pub returns-clause-refused : goal.returns-clause-refused
returns-clause-refused g c clean is_open =
    let old = c.args.connection.now in
    let mid = c.make_edits.new.transaction.conn.now in
    let end = c.commit.new.self.0 in
    let same : end ≡ c.connection-2-1.given.0 = search rules in
    let late : HasCleanDisk (state g.S.Store end) = subst (λ h. HasCleanDisk (state g.S.Store h)) (sym same) clean in
    let clean_mid : HasCleanDisk (state g.S.Store mid) = omega (arith, c.commit.ensures.survives.clean, late) in
    let begun = c.transaction-transaction.ensures.begun in
    let k = rw begun at (c.make_edits.ensures.kept clean_mid (rw begun refl)) in
    let kept : KeepsCommit (state g.S.Store old) (state g.S.Store mid) = record { was_open = k.was_open; committed = k.committed } in
    let inside : IsTrue (state g.S.Store mid).in_transaction = c.in_ok-make_edits.ensures.inside clean_mid (rw begun refl) in
    each_on_err (λ (tables : StoreTables). Keeps (state g.S.Store old) tables) (λ (tables : StoreTables). Keeps (state g.S.Store c.connection-2-1.given.0) tables) c.commit.result (λ tables keeps.
    subst (λ h. OnErr c.commit.result (Keeps (state g.S.Store h) tables)) same
    (commit_refused (state g.S.Store old) (state g.S.Store mid) (state g.S.Store end) tables c.commit.result keeps kept inside (c.commit.ensures.err late) (subst (λ h. IsTrue (state g.S.Store h).is_open) (sym same) is_open)))

pub returns-clause-made : goal.returns-clause-made
returns-clause-made g c clean =
    let old = c.args.connection.now in
    let mid = c.make_edits.new.transaction.conn.now in
    let end = c.commit.new.self.0 in
    let same : end ≡ c.connection-2-1.given.0 = search rules in
    let late : HasCleanDisk (state g.S.Store end) = subst (λ h. HasCleanDisk (state g.S.Store h)) (sym same) clean in
    let clean_mid : HasCleanDisk (state g.S.Store mid) = omega (arith, c.commit.ensures.survives.clean, late) in
    let begun = c.transaction-transaction.ensures.begun in
    let edits_are : map edit_of c.deref.result.now ≡ c.args.change.now = ap (map edit_of) c.deref.ensures.value ∙ c.change.view_is in
    let makes = rw begun at (subst (λ (l : List TableEdit). MakesAll (state g.S.Store c.transaction-transaction.result.conn.now) (state g.S.Store mid) l) edits_are (c.in_ok-make_edits.ensures.made clean_mid)) in
    on_ok c.commit.result (c.commit.ensures.ok late) (λ ended ordered tables keeps fit.
    let holds = makes ordered tables (begins g.S.Store old tables keeps) fit in
    subst (λ h. Keeps (state g.S.Store h) (applied tables c.args.change.now)) same (committed (state g.S.Store mid) (state g.S.Store end) (applied tables c.args.change.now) holds ended.1))
