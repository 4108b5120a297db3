-- A wiki that was shared and taken back (own).
use Rattle.std.specs.Prelude.{◌≡◌}
use mathlib.Core.List.{IsPrefix}
use Rattle.wk_core.specs.Seen.{WikiSeen}

-- it began as it did before, and its journal goes on from the one that it had
pub record ComesBack {K : Type 0} (old new : WikiSeen K) : Type 0 where
  pub start : new.start ≡ old.start
  pub journal : IsPrefix old.journal new.journal
