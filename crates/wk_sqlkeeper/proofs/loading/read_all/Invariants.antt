use Rattle.std.proofs.Common.{◌≡◌, List, []}
use Rattle.sqlite_value.specs.declared.value.Value.{Value}
use Rattle.sqlite.specs.State.{HasCleanDisk, IsUnchanged, Survives, CommitsShowing}
use Rattle.sqlite.specs.Held.{state}
use Rattle.sqlite.specs.Given.{HasGiven, IsPlain}
use Rattle.sqlite.specs.Listing.{understood}
use Rattle.wk_sqlkeeper.specs.Reading.{StandAs}
use Rattle.wk_sqlkeeper.proofs.loading.read_all.Given as goal

abbrev pub invariant-rows : goal.invariant-rows
invariant-rows g l =
    let old = state g.S.Store l.fn.connection in
    let now = state g.S.Store l.rows.conn.now in
    (l.rows.conn.ghost_name ≡ l.initial.rows.conn.ghost_name) × Survives old now (CommitsShowing l.query [] old)
    × (IsPlain (understood l.fn.connection.schema l.query) → HasCleanDisk now
    → (given : List (List Value)) × HasGiven g.S.Store l.query [] l.rows.conn.now given × IsUnchanged old now × StandAs g.R.FromColumns.stands_as given l.read.items)
