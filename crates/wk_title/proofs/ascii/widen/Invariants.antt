use Rattle.std.proofs.Common.{◌≡◌, length, take}
use Rattle.wk_title.proofs.ascii.widen.Given as goal

abbrev pub invariant-loop-i : goal.invariant-loop-i
invariant-loop-i l = (take l.i l.into ≡ take l.i l.bytes) × (length l.into ≡ 288)
