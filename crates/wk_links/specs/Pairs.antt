-- Two equal bytes one after the other, as brackets are written (own).
use Rattle.std.specs.Prelude.{◌≡◌, ℕ, ◌+◌, ◌≤◌, ◌<◌, Bool, true, false, ◌==◌, ◌&&◌, ◌⊎◌, List, length, slice_index}

-- two bytes of this value stand at the place
abbrev pub pair_at : ℕ → List ℕ → ℕ → Bool
pair_at b bytes at = slice_index bytes at == b && slice_index bytes (at + 1) == b

-- no two bytes of this value stand at a place from the first on and before the second
abbrev pub NoPair : ℕ → List ℕ → ℕ → ℕ → Type 0
NoPair b bytes from to = (k : ℕ) → from ≤ k → k < to → pair_at b bytes k ≡ false

-- the nearest `]]` stands here, and no `[[` before it
pub record IsNearestLabelEnd (bytes : List ℕ) (from : ℕ) (end : ℕ) : Type 0 where
  pub behind : from ≤ end
  pub closes : pair_at 93 bytes end ≡ true
  pub nearest : NoPair 93 bytes from end
  pub no_opening : NoPair 91 bytes from end

-- there is no `]]`, or a `[[` is nearer
abbrev pub HasNoLabelEnd : List ℕ → ℕ → Type 0
HasNoLabelEnd bytes from =
    NoPair 93 bytes from (length bytes) ⊎ ((opening : ℕ) × (from ≤ opening) × (pair_at 91 bytes opening ≡ true) × NoPair 93 bytes from opening)
