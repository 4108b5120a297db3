use Rattle.std.proofs.Common.{◌≡◌, ℕ, ◌≤◌, not, take}
use Rattle.std.specs.Prelude.{count_by}
use Rattle.wk_wiki_rules.specs.Jobs.{has_refresh}
use Rattle.wk_core.proofs.fans.count_new.Given as goal

abbrev pub invariant-loop-page : goal.invariant-loop-page
invariant-loop-page l = (l.count ≡ count_by (λ (page : ℕ). not (has_refresh l.jobs.lists page)) (take l.page-index l.pages)) × (l.count ≤ l.page-index)
