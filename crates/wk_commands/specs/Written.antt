-- What a command has written by its end (own).
use Rattle.std.specs.Prelude.{Bool, true, false, List, ℕ, Option}
use Rattle.std.specs.Io.KnownBytes.{Appends, Keeps}
use Rattle.wk_base.specs.Writing.{AppendsPrefix}
use Rattle.wk_commands.specs.declared.ends.CommandEnd.{CommandEnd}
use Rattle.wk_commands.specs.declared.ends.CommandEnd.TheVariants.{Done, Differs, DoorFault, Full, StoreFault, WriteFault, Memory}

-- The whole text, where the command came to its end; a prefix of it, where a write failed; else nothing.
abbrev pub HasWritten : CommandEnd → List ℕ → Option (List ℕ) → Option (List ℕ) → Type 0
HasWritten Done text before after = Appends before after text
HasWritten Differs text before after = Appends before after text
HasWritten WriteFault text before after = AppendsPrefix before after text
HasWritten Full text before after = Keeps before after
HasWritten StoreFault text before after = Keeps before after
HasWritten Memory text before after = Keeps before after
HasWritten DoorFault text before after = Keeps before after

-- how a command ends that has compared all pages and written all
abbrev pub end_of_comparison : Bool → CommandEnd
end_of_comparison true = Done
end_of_comparison false = Differs
