-- What a store tells: one in memory all, one in a file nothing (own).
use Rattle.std.specs.Prelude.{◌≡◌, ℕ, Bool, true, false, Option, Some, None, ⊤}
use Rattle.sqlite_disk.specs.declared.Disk.{Ghosts}
use Rattle.sqlite_disk.specs.declared.Files.{Files}
use Rattle.sqlite_wal.specs.Reads.{AreClean}
use Rattle.sqlite_store.specs.declared.store.FileStore.{FileStore}
use Rattle.sqlite.specs.Held.{Held}
use Rattle.sqlite.specs.Closing.{IsCopied}
use Rattle.wk_table_rules.specs.Rows.{StoreTables}
use Rattle.wk_sqlkeeper.specs.declared.cause.SqlCause.{SqlCause}
use Rattle.wk_sqlkeeper.specs.SqlKeeper.{connection_of, sql_calls, sql_cause, sql_faults}
use Rattle.wk_vault.specs.declared.stored.Stored.{Stored}
use Rattle.wk_vault.specs.declared.stored.Stored.TheVariants.{Memory, File}
use Rattle.wk_vault.specs.declared.stored.Closed.{Closed}
use Rattle.wk_vault.specs.declared.stored.Closed.TheVariants as closed

-- its tables, where it tells them
abbrev pub stored_told : Stored → Option StoreTables
stored_told (Memory tables) = Some tables
stored_told (File keeper voice) = None

-- how many of its calls have failed
abbrev pub stored_faults : Stored → ℕ
stored_faults (Memory tables) = 0
stored_faults (File keeper voice) = sql_faults keeper.value

-- whether it tells that no call of it can fail
abbrev pub stored_whole : Stored → Bool
stored_whole (Memory tables) = true
stored_whole (File keeper voice) = false

-- how many calls were made, where it tells that
abbrev pub stored_calls : Stored → Option ℕ
stored_calls (Memory tables) = None
stored_calls (File keeper voice) = sql_calls keeper.value

-- why the last call was refused, and none where it wasn't or the store is in memory
abbrev pub stored_cause : Stored → Option SqlCause
stored_cause (Memory tables) = None
stored_cause (File keeper voice) = sql_cause keeper.value

-- why changes can't be stored, as it was told since the last one that was stored
abbrev pub stored_news : Stored → Option SqlCause
stored_news (Memory tables) = None
stored_news (File keeper voice) = voice.told

-- The last commit of the connection is in the file itself, as it reads now and after a crash, where the disk has returned
-- what was written.
abbrev pub IsEnded : {D : Type 0} {g : Ghosts D} → Held (FileStore D g) → Files D → Type 0
IsEnded {D} {g} connection files = AreClean g files.log files.db → IsCopied connection files

-- what is left of a store in a file that was ended
abbrev pub IsClosed : Stored → Closed → Type 0
IsClosed (Memory tables) left = ⊤
IsClosed (File keeper voice) closed.Memory = ⊥
IsClosed (File keeper voice) (closed.Files files) = IsEnded (connection_of keeper.value) files

-- what is left of one that may not have been opened
abbrev pub IsClosedIfOpened : Option Stored → Option Closed → Type 0
IsClosedIfOpened None left = left ≡ None
IsClosedIfOpened (Some store) None = ⊥
IsClosedIfOpened (Some store) (Some left) = IsClosed store left
