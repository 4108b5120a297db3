-- The tickets of what a wiki tells.
use Rattle.std.proofs.Common.{◌≡◌, ◌≢◌, ℕ, ◌+◌, ◌≤◌, true, eqb, eq-eqb, List, [], ◌∷◌, length, Option, Some, None, refl, ap, ◌∙◌, inl, inr, arith}
use Rattle.std.specs.Prelude.{IsSome, find, nat_eq, option_map}
use Rattle.std.specs.List.{IsDistinct}
use Rattle.std.proofs.lemmas.Bool.{cases_Bool}
use Rattle.wk_wiki_rules.specs.Jobs.{RefreshEntry, claimed_by, first_claimed, first_queued, is_held_by, is_queued, page_held_by}
use Rattle.wk_wiki_rules.specs.Steps.{fan_pages}
use Rattle.wk_wiki_rules.specs.States.{State}
use Rattle.wk_wiki_rules.specs.Events.{Event, Done, Back, step}
use Rattle.wk_wiki_rules.specs.Starts.{Start}
use Rattle.wk_wiki_laws.specs.Tickets.{IsOpenClaim, tickets_of}
use Rattle.wk_wiki_laws.proofs.Parts.{replay-push}
use Rattle.wk_wiki_laws.proofs.TicketSteps.{open-is-out, out-is-open, ticket-stays, tickets-differ}
use Rattle.wk_wiki_laws.proofs.Tickets.{within-claim}
use Rattle.wk_life_laws.specs.Runs.{IsRun}
use Rattle.wk_life_laws.proofs.RunFacts.{run_replayed}

-- ---- a new ticket

-- a ticket that no job has is of the first queued job, once that is claimed by it
find-new : (ticket : ℕ) (jobs : List RefreshEntry) (job : RefreshEntry) → find is_queued jobs ≡ Some job → option_map (λ (j : RefreshEntry). j.page) (find (is_held_by ticket) jobs) ≡ None
    → option_map (λ (j : RefreshEntry). j.page) (find (is_held_by ticket) (first_claimed jobs ticket)) ≡ Some job.page
find-new ticket [] job none fresh = absurd (let e : None ≡ Some job = none in cc)
find-new ticket (j ∷ jobs) job queued fresh = elim (cases_Bool (is_queued j)) [
  | inl waits ↦
      let e : Some j ≡ Some job = rw waits at queued in
      let same : j ≡ job = cc in
      let own : eqb ticket ticket ≡ true = eq-eqb ticket ticket refl in
      rw (waits, own) (ap (λ (k : RefreshEntry). Some k.page) same)
  | inr claimed ↦ elim (cases_Bool (is_held_by ticket j)) [
    | inl held ↦ absurd (let e : Some j.page ≡ None = rw held at fresh in cc)
    | inr other ↦ rw (claimed, other) (find-new ticket jobs job (rw claimed at queued) (rw other at fresh))
  ]
]

-- ---- a run

module _ (start : Start) (journal : List Event) (state : State) (run : IsRun start journal state) where
  pub run_out : (ticket page : ℕ) → page_held_by state.jobs ticket ≡ Some page → IsOpenClaim journal ticket
  run_out ticket page holds = out-is-open fan_pages start.state state journal ticket page run.kept.one_page run.none_out (run_replayed start journal state run) holds

  pub run_open : (ticket : ℕ) → IsOpenClaim journal ticket → IsSome (page_held_by state.jobs ticket)
  run_open ticket is_open = open-is-out fan_pages start.state state journal ticket run.kept.one_page run.none_out (run_replayed start journal state run) is_open

  pub run_differ : IsDistinct nat_eq (tickets_of state.jobs)
  run_differ = tickets-differ fan_pages start.state state journal run.kept.one_page run.none_out (run_replayed start journal state run)

  pub run_numbers : (ticket page : ℕ) → page_held_by state.jobs ticket ≡ Some page → (1 ≤ ticket) × (ticket ≤ length journal)
  run_numbers ticket page holds = let is_open = run_out ticket page holds in (is_open.positive, within-claim journal ticket is_open)

  pub run_new : page_held_by state.jobs (length journal + 1) ≡ None
  run_new = by (page_held_by state.jobs (length journal + 1)) refl
    where
      by : (o : Option ℕ) → page_held_by state.jobs (length journal + 1) ≡ o → o ≡ None
      by None is = refl
      by (Some page) is = absurd (let within = (run_numbers (length journal + 1) page is).1 in omega (arith, within))

  pub run_claimed : (page : ℕ) → first_queued state.jobs ≡ Some page → page_held_by (claimed_by state.jobs (length journal + 1)) (length journal + 1) ≡ Some page
  run_claimed page first = by (find is_queued state.jobs.refreshes) refl first
    where
      by : (o : Option RefreshEntry) → find is_queued state.jobs.refreshes ≡ o → option_map (λ (j : RefreshEntry). j.page) o ≡ Some page → page_held_by (claimed_by state.jobs (length journal + 1)) (length journal + 1) ≡ Some page
      by None is none = absurd (let e : None ≡ Some page = none in cc)
      by (Some job) is got = find-new (length journal + 1) state.jobs.refreshes job is run_new ∙ got

  pub run_stays : (next : State) (event : Event) (ticket page : ℕ) → step state (length journal) event ≡ Some next → page_held_by state.jobs ticket ≡ Some page → event ≢ Done ticket → event ≢ Back ticket → page_held_by next.jobs ticket ≡ Some page
  run_stays next event ticket page done holds not_done not_back =
      let before = run_replayed start journal state run in
      ticket-stays fan_pages start.state state next journal event ticket page run.kept.one_page run.none_out before (replay-push fan_pages start.state state next journal event before done) holds not_done not_back
