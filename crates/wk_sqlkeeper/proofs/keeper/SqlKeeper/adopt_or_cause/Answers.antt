use Rattle.std.proofs.Common.{◌≡◌, IsTrue}
use Rattle.sqlite.specs.Held.{state}
use Rattle.sqlite.specs.State.{HasCleanDisk}
use Rattle.wk_table_rules.specs.Rows.{StoreTables}
use Rattle.wk_sqltables.specs.Edits.{Keeps}
use Rattle.wk_sqlkeeper.specs.Kept.{StillKeeps}
use Rattle.wk_sqlkeeper.specs.Older.{IsAsBefore, IsKnown, KeepsOlder}
use Rattle.wk_sqlkeeper.specs.SqlKeeper.{connection_of}
use Rattle.wk_sqlkeeper.proofs.Adopted.{err_adopted, ok_adopted}
use Rattle.wk_sqlkeeper.proofs.keeper.SqlKeeper.adopt_or_cause.Goals as goal

pub returns-clause-older : goal.returns-clause-older
returns-clause-older g c =
    let old = state g.S.Store c.args.connection in
    ok_adopted (λ h. HasCleanDisk (state g.S.Store h)) (λ h. (tables : StoreTables) → KeepsOlder old tables → Keeps (state g.S.Store h) tables) c.make_tables-made.new.connection c.make_tables-made.result
    connection_of c.kept.result c.kept.ensures.adopted c.make_tables-made.ensures.whole

pub returns-clause-kept : goal.returns-clause-kept
returns-clause-kept g c =
    let old = state g.S.Store c.args.connection in
    ok_adopted (λ h. HasCleanDisk (state g.S.Store h)) (λ h. StillKeeps old (state g.S.Store h)) c.make_tables-made.new.connection c.make_tables-made.result
    connection_of c.kept.result c.kept.ensures.adopted c.make_tables-made.ensures.kept

pub returns-clause-stays : goal.returns-clause-stays
returns-clause-stays g c =
    let old = state g.S.Store c.args.connection in
    err_adopted (λ h. HasCleanDisk (state g.S.Store h)) (λ h. IsKnown old.now.schema → old.now ≡ old.committed → IsAsBefore old (state g.S.Store h)) c.make_tables-made.new.connection c.make_tables-made.result
    (λ h. IsTrue (state g.S.Store h).is_open) (λ e. e.0) c.kept.result c.kept.ensures.handed_back c.make_tables-made.ensures.stays
