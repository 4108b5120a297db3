-- How a command ends over a whole store, each end with its cause (own).
use Rattle.std.specs.Prelude.{◌≡◌, ◌≤◌, ◌^◌, ℕ, Bool, true, false, List, length}
use Rattle.std.specs.Io.KnownBytes.{Consumes}
use Rattle.wk_words.specs.Verdicts.{Wanted}
use Rattle.wk_words.specs.declared.commands.Command.{Command}
use Rattle.wk_words.specs.declared.commands.Command.TheVariants.{Script, Serve, Jobs, Check, Generate, Report, Replica}
use Rattle.wk_commands.specs.Followed.{HasBadFeed}
use Rattle.wk_script_runs.specs.Outside.{Outside}
use Rattle.wk_cli.specs.Scripted.{VaultStore}
use Rattle.wk_cli_laws.specs.Full.{FindsNoRoom}

-- the command compares the stored link rows of each page with new ones
abbrev pub compares : Command → Bool
compares Script = false
compares Serve = false
compares Jobs = false
compares Check = true
compares Generate = true
compares Report = false
compares Replica = false

-- the command reads the input
abbrev pub reads_input : Command → Bool
reads_input Script = true
reads_input Serve = false
reads_input Jobs = false
reads_input Check = false
reads_input Generate = false
reads_input Report = false
reads_input Replica = true

-- 2^40 bytes were read of the input, or more
pub record ReadsTooMuch (before after : Outside) : Type 0 where
  pub read : List ℕ
  pub consumed : Consumes before.rest after.rest read
  pub much : 2 ^ 40 ≤ length read

-- a line of the feed that was read is bad, or the input ended before the feed's start
pub record ReadsBadFeed (before after : Outside) : Type 0 where
  pub number : ℕ
  pub bad : HasBadFeed before.rest after.rest number

-- The command's work is done; or memory ran out; or a page differs, where the command compares them; or the input is too long, where the
-- command reads it; or there is no room for the work; or the feed is bad, where it is followed.
pub data EndsWithItsCause (wanted : Wanted) (kept : VaultStore) (before after : Outside) (status : ℕ) : Type 0 where
  is_done : status ≡ 0 → EndsWithItsCause wanted kept before after status
  out_of_memory : status ≡ 1 → EndsWithItsCause wanted kept before after status
  pages_differ : status ≡ 8 → compares wanted.command ≡ true → EndsWithItsCause wanted kept before after status
  too_long : status ≡ 9 → reads_input wanted.command ≡ true → ReadsTooMuch before after → EndsWithItsCause wanted kept before after status
  no_room : status ≡ 10 → FindsNoRoom wanted kept → EndsWithItsCause wanted kept before after status
  bad_feed : status ≡ 11 → wanted.command ≡ Replica → ReadsBadFeed before after → EndsWithItsCause wanted kept before after status
