-- Counts of faults: a count goes up by one, and stops at the end of `u64` (own).
use Rattle.std.specs.Prelude.{ℕ, ◌+◌, ◌-◌, ◌^◌, ◌≤◌, min}

-- one more, or the end of `u64`
abbrev pub one_more : ℕ → ℕ
one_more count = min (count + 1) (2 ^ 64 - 1)

-- the count rose, or stands at its type's end
abbrev pub Rose : ℕ → ℕ → Type 0
Rose before now = one_more before ≤ now
