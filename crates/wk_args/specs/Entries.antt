-- Entries of a map of names, by the bytes of the names (own).
use Rattle.std.specs.Prelude.{ℕ, List, map, String}
use Rattle.std.specs.String.{string_bytes}

abbrev pub by_bytes : {A V : Type 0} → List (String A × V) → List (List ℕ × V)
by_bytes entries = map (λ e. (string_bytes e.0, e.1)) entries
