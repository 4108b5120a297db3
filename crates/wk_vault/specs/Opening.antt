-- What stands at a store's name, and what is opened of it (own).
use Rattle.std.specs.Prelude.{Bool, true, false, not, ◌&&◌, ◌||◌}
use Rattle.wk_wal.specs.declared.kinds.LogKind.{LogKind}
use Rattle.wk_wal.specs.declared.kinds.LogKind.TheVariants as log
use Rattle.wk_vault.specs.declared.start.FileKind.{FileKind}
use Rattle.wk_vault.specs.declared.start.FileKind.TheVariants as file

-- a file that becomes a new store where it is opened: one that is missing, has no byte, or has one zero
abbrev pub is_new : FileKind → Bool
is_new file.Missing = true
is_new file.Empty = true
is_new file.Zero = true
is_new file.Byte = false
is_new file.Filled = false

-- a log that the making of a new store leaves where it is stopped
abbrev pub is_left : LogKind → Bool
is_left log.Empty = false
is_left log.Begun = true
is_left log.Stopped = false
is_left log.Log = false
is_left log.Other = false

-- a log without a byte
abbrev pub is_nothing : LogKind → Bool
is_nothing log.Empty = true
is_nothing log.Begun = false
is_nothing log.Stopped = false
is_nothing log.Log = false
is_nothing log.Other = false

-- The log has something, and the file nothing. The making of a store leaves its file before it begins the log.
abbrev pub is_alone : FileKind → LogKind → Bool
is_alone file.Missing log = not (is_nothing log)
is_alone file.Empty log = not (is_nothing log || is_left log)
is_alone file.Zero log = not (is_nothing log || is_left log)
is_alone file.Byte log = false
is_alone file.Filled log = false

-- what is no log, or another database's
abbrev pub is_other : LogKind → Bool
is_other log.Empty = false
is_other log.Begun = false
is_other log.Stopped = false
is_other log.Log = false
is_other log.Other = true

-- what is opened; a new store only where one is to be made
abbrev pub may_open : FileKind → LogKind → Bool → Bool
may_open file.Missing log makes = is_nothing log && makes
may_open file.Empty log makes = (is_nothing log || is_left log) && makes
may_open file.Zero log makes = is_left log && makes
may_open file.Byte log makes = false
may_open file.Filled log makes = not (is_other log)
