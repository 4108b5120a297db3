-- What stands outside a script (own).
use Rattle.std.specs.Prelude.{ℕ, List, Option}

-- Each part where it is told: the bytes that are left to read, the clock's moments that are left, and the bytes that were
-- taken.
pub record Outside : Type 0 where
  pub rest : Option (List ℕ)
  pub moments : Option (List ℕ)
  pub taken : Option (List ℕ)
