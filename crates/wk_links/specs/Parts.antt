-- A part of a list between two places (own).
use Rattle.std.specs.Prelude.{ℕ, ◌-◌, List, take, drop}

abbrev pub part : {A : Type 0} → List A → ℕ → ℕ → List A
part xs from to = take (to - from) (drop from xs)
