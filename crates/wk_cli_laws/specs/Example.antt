-- The command `check` over an empty store that is whole, where nothing fails (own).
use Rattle.std.specs.Prelude.{◌≡◌, ℕ, Bool, true, false, List, [], codes, Option, Some, None}
use Rattle.wk_report_rules.specs.declared.Report.TheVariants.{Wanted as WantedTitles}
use Rattle.wk_table_rules.specs.Rows.{StoreTables, no_tables}
use Rattle.wk_words.specs.Verdicts.{Wanted}
use Rattle.wk_words.specs.declared.commands.Command.TheVariants.{Check}
use Rattle.wk_script_runs.specs.Outside.{Outside}
use Rattle.wk_cli.specs.Finished.{VaultTold}
use Rattle.wk_cli.specs.Works.{DoorSeen}
use Rattle.wk_cli.specs.declared.ends.Finish.{Finish}

-- a store that keeps the tables of an empty wiki, is whole and has never failed
abbrev pub tells_empty : Unit {0} → Option StoreTables
tells_empty store = Some no_tables

abbrev pub always_whole : Unit {0} → Bool
always_whole store = true

abbrev pub never_failed : Unit {0} → ℕ
never_failed store = 0

-- a vault that has such a store under each name
abbrev pub empty_vault : VaultTold
empty_vault = record { tables = λ name. Some no_tables; whole = λ name. true }

-- `check`, where no option is given
abbrev pub wanted_check : Wanted
wanted_check = record {
  command = Check;
  store = [];
  listen = codes "127.0.0.1:8080";
  workers = 4;
  procs = 1;
  max_connections = 1000000;
  pages = 50;
  number = 1;
  journal_limit = 33554432;
  most = 50;
  report = WantedTitles;
  feed = false;
}

-- a door that tells nothing and has never failed
abbrev pub silent_door : DoorSeen (Unit {0})
silent_door = record { told = None; faults = 0 }

-- what the command writes
abbrev pub counts_of_nothing : List ℕ
counts_of_nothing = codes "pages 0 differ 0\n"

-- no byte is to be read, no moment is told, and nothing was written; and the same behind the command
abbrev pub outside_before : Outside
outside_before = record { rest = Some []; moments = Some []; taken = Some [] }

abbrev pub outside_behind : Outside
outside_behind = record { rest = Some []; moments = Some []; taken = Some counts_of_nothing }

-- The work is done, and the store is handed back.
pub record IsDone (finish : Finish (Unit {0})) : Type 0 where
  pub status : finish.status ≡ 0
  pub no_point : finish.points.items ≡ []
  pub not_bad : finish.bad ≡ None
  pub store : finish.store ≡ Some tt
