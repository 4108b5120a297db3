-- What a keeper over a database holds, and what it tells.
use Rattle.std.specs.Prelude.{ℕ, Bool, false, Option, None, Some}
use Rattle.sqlite.specs.Held.{Held}
use Rattle.wk_table_rules.specs.Rows.{StoreTables}
use Rattle.wk_sqlkeeper.specs.declared.cause.SqlCause.{SqlCause}
use Rattle.wk_sqlkeeper.specs.declared.keeper.SqlKeeper.{SqlKeeper}

-- the connection to its database
abbrev pub connection_of : {S : Type 0} → SqlKeeper S → Held S
connection_of keeper = keeper.connection

-- it tells no tables
abbrev pub sql_told : {S : Type 0} → SqlKeeper S → Option StoreTables
sql_told keeper = None

-- how many of its calls have failed
abbrev pub sql_faults : {S : Type 0} → SqlKeeper S → ℕ
sql_faults keeper = keeper.calls.faults

-- each of its calls may fail
abbrev pub sql_whole : {S : Type 0} → SqlKeeper S → Bool
sql_whole keeper = false

-- how many calls were made
abbrev pub sql_calls : {S : Type 0} → SqlKeeper S → Option ℕ
sql_calls keeper = Some keeper.calls.made

-- why the last call was refused, and none where it wasn't
abbrev pub sql_cause : {S : Type 0} → SqlKeeper S → Option SqlCause
sql_cause keeper = keeper.calls.cause
