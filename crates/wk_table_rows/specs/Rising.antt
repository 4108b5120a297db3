-- Lists whose items have numbers that rise.
use Rattle.std.specs.Prelude.{ℕ, ◌<◌, List}
use Rattle.std.specs.List.{AllPairs}

-- each item's number is below those of the items behind it
abbrev pub IsRising : {X : Type 0} → (X → ℕ) → List X → Type 0
IsRising number items = AllPairs (λ a b. number a < number b) items
