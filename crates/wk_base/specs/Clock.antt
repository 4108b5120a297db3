-- The moments that a clock has left (own).
use Rattle.std.specs.Prelude.{◌≡◌, ℕ, List, [], ◌∷◌, Option, None, Some, ⊤}

-- the first of the moments, and 0 where there is none
abbrev pub first_moment : List ℕ → ℕ
first_moment [] = 0
first_moment (moment ∷ _) = moment

-- the moments that are left: the first goes, unless it is the last
abbrev pub later_moments : List ℕ → List ℕ
later_moments [] = []
later_moments (moment ∷ []) = moment ∷ []
later_moments (_ ∷ next ∷ later) = next ∷ later

-- a clock that tells the moments it has left gives the first of them, and goes on to tell those after it
abbrev pub Ticks : Option (List ℕ) → Option (List ℕ) → ℕ → Type 0
Ticks None _ _ = ⊤
Ticks (Some _) None _ = ⊥
Ticks (Some left) (Some later) moment = (moment ≡ first_moment left) × (later ≡ later_moments left)
