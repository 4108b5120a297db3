-- A store that a vault in memory is made with, as a pair.
use Rattle.std.specs.Prelude.{string_bytes}
use Rattle.std.specs.declared.string.String.{String}
use Rattle.wk_tables.specs.Held.{Held}
use Rattle.wk_keeper.specs.NamedTables.{NamedTables}

-- its name and its tables
abbrev pub store_of : {A : Type 0} → String A × Held → NamedTables
store_of (name, tables) = record { name = string_bytes name; tables = tables.tables }
