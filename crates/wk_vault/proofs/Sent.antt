-- A store may cross threads: both its keepers may.
use denote.Enum.Declared.{shape}
use denote.RattleType.{RattleType}
use denote.Param.Send.{IsSend, sendable, enum_send, recorded_send}
use Rattle.std.proofs.Crossing.{Box-send}
use Rattle.sqlite.below.sqlite_std_file.specs.contracts.host.Host as Host
use Rattle.sqlite.below.sqlite_std_file.specs.contracts.host.HostCalls.TheImpl as calls
use Rattle.sqlite.specs.contracts.Unknown as Unknown
use Rattle.sqlite.below.sqlite_disk.specs.contracts.start.UnknownStart.TheImpl as start
use Rattle.sqlite.below.sqlite_disk.specs.contracts.modelled.Modelled as Modelled
use Rattle.sqlite.below.sqlite_disk.proofs.modelled.Modelled.TheSendSync as modelled
use Rattle.sqlite.below.sqlite_store.proofs.store.FileStore.TheSendSync as files
use Rattle.sqlite.below.sqlite_store.specs.contracts.store.FileStoreStore.TheImpl as store
use Rattle.wk_keeper.proofs.mem_keeper.MemKeeper.TheSendSync as memory
use Rattle.wk_sqlkeeper.proofs.keeper.SqlKeeper.TheSendSync as database
use Rattle.wk_vault.proofs.tells.Voice.TheSendSync as voice
use Rattle.wk_vault.specs.contracts.stored.Stored as Stored

host : IsSend Host.the_row
host = search sendable depth 20

-- a file of the system
abbrev file : RattleType
file = Modelled.the_row Host.the_row Unknown.the_row calls.ghosts start.ghosts

file_send : IsSend file
file_send = modelled.the_send Host.the_row Unknown.the_row _ _ host

field : IsSend Stored.the_field.row
field = enum_send (shape Stored.the_type) ((memory.the_send, tt), ((Box-send _ (database.the_send _ (store.ghosts file _ store.no_dict) (files.the_send file _ file_send)), (voice.the_field_send, tt)), tt))

pub stored_send : IsSend Stored.the_row
stored_send = recorded_send Stored.the_field.row _ _ Stored.the_type.to_one field
