-- The statuses of the program (own).
use Rattle.std.specs.Prelude.{ℕ, List, [], ◌∷◌, Option, None, Some, Result, Ok, Err}
use Rattle.wk_table_rules.specs.declared.BadStore.{BadStore}
use Rattle.wk_commands.specs.declared.ends.CommandEnd.{CommandEnd}
use Rattle.wk_commands.specs.declared.ends.CommandEnd.TheVariants as command
use Rattle.wk_commands.specs.declared.replicas.ReplicaEnd.{ReplicaEnd}
use Rattle.wk_commands.specs.declared.replicas.ReplicaEnd.TheVariants as replica
use Rattle.wk_core.specs.Loads.{bad_store_of}
use Rattle.wk_core.specs.declared.outcomes.LoadCause.{LoadCause}
use Rattle.wk_core.specs.declared.outcomes.LoadCause.TheVariants as cause
use Rattle.wk_script.specs.declared.script.ScriptEnd.{ScriptEnd}
use Rattle.wk_script.specs.declared.script.ScriptEnd.TheVariants as end

-- those that come
abbrev pub statuses : List ℕ
statuses = 0 ∷ 1 ∷ 2 ∷ 3 ∷ 4 ∷ 5 ∷ 6 ∷ 7 ∷ 8 ∷ 9 ∷ 10 ∷ 11 ∷ []

-- where a store isn't opened
abbrev pub status_of_cause : LoadCause → ℕ
status_of_cause cause.Memory = 1
status_of_cause cause.StoreFault = 5
status_of_cause (cause.BadStore bad) = 7

-- where a script ran
abbrev pub status_of_end : ScriptEnd → ℕ
status_of_end end.Done = 0
status_of_end end.Memory = 1
status_of_end end.ReadFault = 3
status_of_end end.WriteFault = 4
status_of_end end.StoreFault = 5
status_of_end (end.BadStore bad) = 7
status_of_end end.Bound = 9

-- where a command ran over a wiki
abbrev pub status_of_command : CommandEnd → ℕ
status_of_command command.Done = 0
status_of_command command.Memory = 1
status_of_command command.WriteFault = 4
status_of_command command.StoreFault = 5
status_of_command command.DoorFault = 6
status_of_command command.Differs = 8
status_of_command command.Full = 10

-- where a command was to run over a store
abbrev pub status_of_work : Result CommandEnd LoadCause → ℕ
status_of_work (Ok end) = status_of_command end
status_of_work (Err why) = status_of_cause why

-- the bad row, where that is the end
abbrev pub bad_of_work : Result CommandEnd LoadCause → Option BadStore
bad_of_work (Ok end) = None
bad_of_work (Err why) = bad_store_of why

-- where a replica followed a feed
abbrev pub status_of_replica : ReplicaEnd → ℕ
status_of_replica replica.Done = 0
status_of_replica replica.Memory = 1
status_of_replica replica.ReadFault = 3
status_of_replica replica.WriteFault = 4
status_of_replica replica.DoorFault = 6
status_of_replica replica.Bound = 9
status_of_replica (replica.BadFeed number) = 11

-- a bad line of a feed is told as a row of the rule behind those of a store
abbrev pub bad_of_replica : ReplicaEnd → Option BadStore
bad_of_replica replica.Done = None
bad_of_replica replica.Memory = None
bad_of_replica replica.ReadFault = None
bad_of_replica replica.WriteFault = None
bad_of_replica replica.DoorFault = None
bad_of_replica replica.Bound = None
bad_of_replica (replica.BadFeed number) = Some (record { rule = 8; row = number })
