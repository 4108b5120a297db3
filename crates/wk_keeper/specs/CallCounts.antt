-- Counts of the calls that were made, where they are told (own).
use Rattle.std.specs.Prelude.{◌≡◌, ℕ, Option, None, Some, ⊤}
use Rattle.wk_base.specs.Faults.{one_more}

-- a count that is told is one more than it was, and stops at the end of `u64`
abbrev pub CountsOne : Option ℕ → Option ℕ → Type 0
CountsOne None _ = ⊤
CountsOne (Some before) now = now ≡ Some (one_more before)
