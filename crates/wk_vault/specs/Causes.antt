-- Why a file isn't opened as a store (own).
use Rattle.std.specs.declared.io.ErrorKind.{ErrorKind}
use Rattle.std.specs.declared.io.ErrorKind.TheVariants as io
use Rattle.sqlite.specs.declared.error.ErrorCode.TheVariants as code
use Rattle.sqlite.specs.declared.error.Error.{Error}
use Rattle.sqlite.specs.declared.error.Error.TheVariants.{SqliteFailure}
use Rattle.wk_sqlkeeper.specs.declared.cause.SqlCause.{SqlCause}
use Rattle.wk_sqlkeeper.specs.declared.cause.SqlCause.TheVariants as sql
use Rattle.wk_vault.specs.declared.cause.Refusal.{Refusal}
use Rattle.wk_vault.specs.declared.cause.Refusal.TheVariants.{Memory, Because}
use Rattle.wk_vault.specs.declared.cause.StoreCause.TheVariants.{InUse, CannotOpen, NoDatabase, OtherTables, DiskFailed, DiskFull}

-- where the database isn't opened for this error
abbrev pub open_refusal : Error → Refusal
open_refusal (SqliteFailure code.OutOfMemory) = Memory
open_refusal (SqliteFailure code.DatabaseBusy) = Because InUse
open_refusal (SqliteFailure code.CannotOpen) = Because CannotOpen
open_refusal (SqliteFailure code.SystemIoFailure) = Because DiskFailed
open_refusal (SqliteFailure code.DiskFull) = Because DiskFull
open_refusal _ = Because NoDatabase

-- where the file or its log can't be looked at, for an error of this kind
abbrev pub look_refusal : ErrorKind → Refusal
look_refusal io.OutOfMemory = Memory
look_refusal _ = Because CannotOpen

-- where it is opened, and its tables aren't a wiki's or can't be made, for this cause
abbrev pub adopt_refusal : SqlCause → Refusal
adopt_refusal sql.Memory = Memory
adopt_refusal sql.DiskFull = Because DiskFull
adopt_refusal sql.DiskFailed = Because DiskFailed
adopt_refusal sql.Closed = Because DiskFailed
adopt_refusal sql.Damaged = Because NoDatabase
adopt_refusal sql.Locked = Because InUse
adopt_refusal sql.OtherTables = Because OtherTables
adopt_refusal sql.Value = Because OtherTables
adopt_refusal sql.NoRow = Because OtherTables
adopt_refusal sql.Statement = Because OtherTables
