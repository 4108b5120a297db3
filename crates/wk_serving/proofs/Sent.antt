-- Feeds that weren't sent whole.
use Rattle.std.proofs.Common.{◌≡◌, true, false}
use Rattle.std.specs.Prelude.{IsErr, IsOk, Result, Ok, Err}

-- nothing is both
pub not-both : {A E : Type 0} (sent : Result A E) → IsErr sent → IsOk sent → ⊥
not-both (Ok n) err ok = let off : false ≡ true = err in cc
not-both (Err why) err ok = let off : false ≡ true = ok in cc
