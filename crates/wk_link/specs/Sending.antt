-- What a link has taken where a write of a text failed (own).
use Rattle.std.specs.Prelude.{ℕ, ◌<◌, List, length, take, Option}
use Rattle.std.specs.Io.KnownBytes.{Appends}

-- told bytes grow by some first of these, fewer than all
abbrev pub AppendsProperPrefix : Option (List ℕ) → Option (List ℕ) → List ℕ → Type 0
AppendsProperPrefix old new bytes = (k : ℕ) × (k < length bytes) × Appends old new (take k bytes)
