-- A text round a byte of it (own).
use Rattle.std.specs.Prelude.{◌≡◌, ℕ, ◌+◌, ◌<◌, List, length, take, drop, Option, Some, None}

-- a place of the text, where there is one
abbrev pub IsPlaceIn : List ℕ → Option ℕ → Type 0
IsPlaceIn bytes None = Unit {0}
IsPlaceIn bytes (Some at) = at < length bytes

-- what stands before a place of the text, and what stands behind it; or all, where there is no place
abbrev pub SplitsAt : List ℕ → Option ℕ → List ℕ → Option (List ℕ) → Type 0
SplitsAt bytes None front back = (front ≡ bytes) × (back ≡ None)
SplitsAt bytes (Some at) front back = (front ≡ take at bytes) × (back ≡ Some (drop (at + 1) bytes))
