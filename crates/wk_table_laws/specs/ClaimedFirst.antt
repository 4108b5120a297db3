-- The order of claimed and queued refresh jobs (own).
use Rattle.std.specs.Prelude.{◌≡◌, true, List, [], ◌∷◌, ⊤}
use Rattle.std.specs.List.{AllByRecursion}
use Rattle.wk_wiki_rules.specs.Jobs.{RefreshEntry, JobLists, is_queued}

abbrev pub AreClaimedFirst : List RefreshEntry → Type 0
AreClaimedFirst [] = ⊤
AreClaimedFirst (job ∷ jobs) = (is_queued job ≡ true → AllByRecursion (λ later. is_queued later ≡ true) jobs) × AreClaimedFirst jobs

-- no claimed job stands behind a queued one
abbrev pub ClaimedStandFirst : JobLists → Type 0
ClaimedStandFirst lists = AreClaimedFirst lists.refreshes
