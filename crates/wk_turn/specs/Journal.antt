-- What contracts say of a journal, and of the places in it that belong to one pass (own). Places are counted from 0.
use Rattle.std.specs.Prelude.{◌≡◌, ℕ, ◌-◌, ◌<◌, ◌≤◌, ◌==◌, ◌⊎◌, List, length, Option, Some, slice_get, count_by, nat_lt, if◌then◌else◌}
use Rattle.std.specs.List.{range_with_len}

-- how often a place is listed
abbrev pub times : ℕ → List ℕ → ℕ
times p places = count_by (λ q. q == p) places

-- a place is listed
abbrev pub IsListed : List ℕ → ℕ → Type 0
IsListed places p = 0 < times p places

module _ {E : Type 0} where
  -- the places that the second journal has beyond the first
  abbrev pub added : List E → List E → List ℕ
  added before after = range_with_len (length before) (length after - length before)

  -- the longer of two journals, and the first where they are as long
  abbrev pub longer : List E → List E → List E
  longer one two = if nat_lt (length one) (length two) then two else one

module _ {E : Type 0} (closes : E → Option ℕ) where
  -- the entry at q closes the earlier place p
  abbrev pub Closes : List E → ℕ → ℕ → Type 0
  Closes log q p = (e : E) × (slice_get log q ≡ Some e) × (closes e ≡ Some p) × (p < q)

  -- each entry beyond the first journal closes, if any, a place that is listed or beyond it too, and that no earlier entry closes
  abbrev pub ClosesOwn : List E → List E → List ℕ → Type 0
  ClosesOwn before after own =
      (q p : ℕ) → length before ≤ q → Closes after q p → (IsListed own p ⊎ (length before ≤ p)) × ((r : ℕ) → r < q → ¬ Closes after r p)

  -- the places are entries of the journal, each listed once. What closes one of them is one of them, and nothing else closes it
  pub record AreOwn (log : List E) (own : List ℕ) : Type 0 where
    pub there : (p : ℕ) → IsListed own p → p < length log
    pub single : (p : ℕ) → times p own ≤ 1
    pub by_own : (p q : ℕ) → IsListed own p → Closes log q p → IsListed own q
    pub once : (p q r : ℕ) → IsListed own p → Closes log q p → Closes log r p → q ≡ r

  -- the place is listed, and no entry of the journal closes it
  abbrev pub IsOpen : List E → List ℕ → ℕ → Type 0
  IsOpen log own p = IsListed own p × ((q : ℕ) → ¬ Closes log q p)
