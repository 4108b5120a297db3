-- What a door of TCP counts.
use Rattle.std.specs.Prelude.{ℕ}
use Rattle.wk_net.specs.declared.tcp_door.TcpDoor.{TcpDoor}

-- how many of its calls have failed
abbrev pub door_faults_of : {R L : Type 0} → TcpDoor R L → ℕ
door_faults_of door = door.faults
