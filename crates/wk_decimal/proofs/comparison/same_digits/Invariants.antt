use Rattle.std.proofs.Common.{◌≡◌, ℕ, ◌<◌, get_or}
use Rattle.wk_decimal.specs.Numeral.{digits_of}
use Rattle.wk_decimal.proofs.comparison.same_digits.Given as goal

abbrev pub invariant-loop-at : goal.invariant-loop-at
invariant-loop-at l = (k : ℕ) → k < l.at → get_or (digits_of l.a) k 48 ≡ get_or (digits_of l.b) k 48
