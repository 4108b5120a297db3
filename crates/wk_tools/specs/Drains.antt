-- When jobs are left, and when a journal is full for good (own).
use Rattle.std.specs.Prelude.{◌≡◌, ◌⊎◌, ◌+◌, ◌<◌, []}
use Rattle.wk_page_rules.specs.Verdict.{max_job}
use Rattle.wk_wiki_rules.specs.States.{State}
use Rattle.wk_wiki_laws.specs.Numbers.{pages_ahead}
use Rattle.wk_core.specs.Seen.{WikiSeen}

-- no job is left, queued, claimed or fanning
pub record HasNoJob (state : State) : Type 0 where
  pub refreshes : state.jobs.refreshes ≡ []
  pub fans : state.jobs.fans ≡ []

-- Some job is left, and a journal has no room for a claim and its return even where it begins anew, or the numbers of jobs,
-- with one more for each page that a fan may still serve, come to their end.
pub record CanBeFull {K : Type 0} (wiki : WikiSeen K) : Type 0 where
  pub left : ¬ HasNoJob wiki.state
  pub cause : (wiki.start.limits.journal < 2) ⊎ (max_job < wiki.state.jobs.next + pages_ahead wiki.state)
