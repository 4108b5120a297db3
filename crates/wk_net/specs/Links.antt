-- What a connection over TCP counts.
use Rattle.std.specs.Prelude.{ℕ}
use Rattle.wk_net.specs.declared.tcp_link.TcpLink.{TcpLink}

-- how many of its reads have failed
abbrev pub read_faults_of : {S : Type 0} → TcpLink S → ℕ
read_faults_of link = link.read_faults

-- how many of its writes have failed
abbrev pub write_faults_of : {S : Type 0} → TcpLink S → ℕ
write_faults_of link = link.write_faults
