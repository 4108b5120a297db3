-- Which tickets are out, by the journal and by the jobs (own).
use Rattle.std.specs.Prelude.{◌≡◌, ◌≢◌, ℕ, ◌-◌, ◌≤◌, List, slice_get, filter_map, Some}
use Rattle.wk_wiki_rules.specs.Jobs.{JobLists}
use Rattle.wk_wiki_rules.specs.Events.{Event, Claim}
use Rattle.wk_wiki_rules.specs.Entries.{closes}

-- the tickets by which jobs are claimed
abbrev pub tickets_of : JobLists → List ℕ
tickets_of lists = filter_map (λ job. job.ticket) lists.refreshes

-- the ticket is that of a claim in the journal, which no later event closes
pub record IsOpenClaim (events : List Event) (ticket : ℕ) : Type 0 where
  pub positive : 1 ≤ ticket
  pub claim : slice_get events (ticket - 1) ≡ Some Claim
  pub unclosed : (place : ℕ) (event : Event) → ticket ≤ place → slice_get events place ≡ Some event → closes event ≢ Some (ticket - 1)
