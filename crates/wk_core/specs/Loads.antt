-- What a wiki is that was just opened (own).
use Rattle.std.specs.Prelude.{◌≡◌, [], None, Some, Option}
use Rattle.wk_page_rules.specs.Verdict.{MostHeld}
use Rattle.wk_table_rules.specs.declared.BadStore.{BadStore}
use Rattle.wk_wiki_rules.specs.Lives.{reopened}
use Rattle.wk_core.specs.Seen.{WikiSeen}
use Rattle.wk_core.specs.declared.outcomes.LoadCause.{LoadCause}
use Rattle.wk_core.specs.declared.outcomes.LoadCause.TheVariants as cause

-- the journal is empty, the state is its start, in which each job waits, and it isn't sealed
pub record HasOpened {K : Type 0} (wiki : WikiSeen K) (most : MostHeld) : Type 0 where
  pub journal : wiki.journal ≡ []
  pub start : wiki.start.state ≡ wiki.state
  pub limits : wiki.start.limits ≡ most
  pub unsealed : wiki.start.sealed ≡ None
  pub queued : reopened wiki.state ≡ wiki.state

-- the bad row, where that is the cause
abbrev pub bad_store_of : LoadCause → Option BadStore
bad_store_of cause.StoreFault = None
bad_store_of (cause.BadStore bad) = Some bad
bad_store_of cause.Memory = None
