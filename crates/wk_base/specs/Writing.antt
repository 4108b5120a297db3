-- What a loop over writes has done to the bytes that a sink has taken (own).
use Rattle.std.specs.Prelude.{◌≡◌, ℕ, ◌<◌, ◌≤◌, List, length, take, Option}
use Rattle.std.specs.Io.KnownBytes.{Appends, Keeps}
use Rattle.wk_base.specs.Faults.{Rose}

-- told bytes grow by a prefix of these
abbrev pub AppendsPrefix : Option (List ℕ) → Option (List ℕ) → List ℕ → Type 0
AppendsPrefix old new bytes = (k : ℕ) × (k ≤ length bytes) × Appends old new (take k bytes)

-- The writes before the first that failed took so many of the bytes, fewer than all, and counted no fault. That write
-- is the last: nothing was taken after it.
pub record EndsAtFirstFault (O : Type 0) (taken : O → Option (List ℕ)) (faults : O → ℕ) (old new : O) (bytes : List ℕ) : Type 0 where
  pub before : O
  pub count : ℕ
  pub some_left : count < length bytes
  pub appended : Appends (taken old) (taken before) (take count bytes)
  pub no_fault : faults before ≡ faults old
  pub nothing_more : Keeps (taken before) (taken new)
  pub rose : Rose (faults before) (faults new)
