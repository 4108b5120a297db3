use Rattle.std.proofs.Common.{◌≡◌, nat_lt, take}
use Rattle.std.specs.Char.{is_ascii}
use Rattle.std.specs.List.{list_all}
use Rattle.wk_title.proofs.ascii.is_ascii.Given as goal

abbrev pub invariant-loop-byte : goal.invariant-loop-byte
invariant-loop-byte l = list_all is_ascii (take l.byte-index l.bytes) ≡ nat_lt l.highest 128
