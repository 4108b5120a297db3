-- Wikis that many threads drain (own).
use Rattle.std.specs.Prelude.{◌≡◌, ℕ, ◌≤◌}
use Rattle.wk_core.specs.Seen.{WikiSeen}
use Rattle.wk_tools.specs.Drains.{CanBeFull, HasNoJob}
use Rattle.wk_tools.specs.Lived.{HasLived}
use Rattle.wk_tools.specs.declared.drains.DrainEnd.{DrainEnd}
use Rattle.wk_tools.specs.declared.drains.DrainEnd.TheVariants.{Done, JournalFull, StoreFault}

-- A wiki whose jobs were done, to the end or until the drain ended before it: nothing was saved.
pub record IsDrainedBy {K : Type 0} (faults : K → ℕ) (old new : WikiSeen K) (end : DrainEnd) : Type 0 where
  pub lived : HasLived old new
  pub history : new.state.history ≡ old.state.history
  pub limits : new.start.limits ≡ old.start.limits
  pub whole : new.start.whole ≡ old.start.whole
  pub tells : new.start.tells ≡ old.start.tells
  pub failed : new.start.failed ≡ old.start.failed
  pub done : end ≡ Done → HasNoJob new.state
  pub full : end ≡ JournalFull → CanBeFull old
  pub fault : end ≡ StoreFault → 1 ≤ faults new.keeper
