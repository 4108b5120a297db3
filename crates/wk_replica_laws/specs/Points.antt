-- Points that are shown one after the other (own).
use Rattle.std.specs.Prelude.{ℕ, ◌≤◌, List, [], ◌∷◌}

-- the numbers don't fall, and the first is no less than this one
abbrev pub NeverFall : ℕ → List ℕ → Type 0
NeverFall low [] = Unit {0}
NeverFall low (point ∷ points) = (low ≤ point) × NeverFall point points
