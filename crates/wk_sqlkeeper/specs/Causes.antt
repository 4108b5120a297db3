-- Why a database refuses, by the error that it answers (own).
use Rattle.sqlite.specs.declared.error.ErrorCode.{ErrorCode}
use Rattle.sqlite.specs.declared.error.ErrorCode.TheVariants as code
use Rattle.sqlite.specs.declared.error.Error.{Error}
use Rattle.sqlite.specs.declared.error.Error.TheVariants.{SqliteFailure, InvalidColumnType, IntegralValueOutOfRange, Utf8Error, QueryReturnedNoRows}
use Rattle.wk_sqlkeeper.specs.declared.cause.SqlCause.{SqlCause}
use Rattle.wk_sqlkeeper.specs.declared.cause.SqlCause.TheVariants.{Memory, DiskFull, DiskFailed, Damaged, Locked, Closed, OtherTables, Value, NoRow, Statement}

-- a failure of the database, by its code
abbrev pub cause_of_code : ErrorCode → SqlCause
cause_of_code code.OutOfMemory = Memory
cause_of_code code.DiskFull = DiskFull
cause_of_code code.SystemIoFailure = DiskFailed
cause_of_code code.DatabaseCorrupt = Damaged
cause_of_code code.DatabaseBusy = Locked
cause_of_code code.Closed = Closed
cause_of_code code.NotADatabase = OtherTables
cause_of_code code.TooBig = Value
cause_of_code _ = Statement

-- any error
abbrev pub cause_of : Error → SqlCause
cause_of (SqliteFailure failure) = cause_of_code failure
cause_of (InvalidColumnType at kind) = Value
cause_of (IntegralValueOutOfRange at) = Value
cause_of (Utf8Error at) = Value
cause_of QueryReturnedNoRows = NoRow
cause_of _ = Statement
