use Rattle.std.proofs.Common.{◌≡◌, ◌+◌, ◌≤◌, true, take, drop, length}
use Rattle.wk_title.proofs.OnePass.{IsPassed}
use Rattle.wk_title.proofs.ascii.squeezed.Given as goal

abbrev pub invariant-loop-byte : goal.invariant-loop-byte
invariant-loop-byte l =
    (l.len ≤ l.byte-index)
    × (l.is_further ≡ true → l.len + 1 ≤ l.byte-index)
    × (length l.into ≡ 288)
    × IsPassed l.text (drop l.byte-index l.text) (take l.len l.into) l.is_further l.has_colon l.is_dubious
