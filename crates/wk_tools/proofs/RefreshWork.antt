-- What a claim does, and the event by which its ticket comes in.
use Rattle.std.proofs.Common.{◌≡◌, ℕ, ◌+◌, ◌≤◌, ◌<◌, Bool, true, false, cond, eqb, not, List, [], ◌∷◌, ◌++◌, length, map, Option, Some, None, refl, sym, ap, ◌∙◌, inl, inr, subst, append_assoc, arith}
use Rattle.std.specs.Prelude.{filter, find, is_none, nat_eq, option_and_then, option_map}
use Rattle.std.specs.List.{AllByRecursion, IsDistinct, cons_option}
use Rattle.std.proofs.lemmas.Bool.{cases_Bool, eq-eqb}
use Rattle.std.proofs.lemmas.List.{append-nil, length-append}
use Rattle.std.proofs.lemmas.List.Elements.{filter_map-append}
use Rattle.std.proofs.lemmas.Option.{option_and_then_some}
use Rattle.wk_wiki_rules.specs.Jobs.{RefreshEntry, claimed_by, first_claimed, first_queued, given_back, is_held_by, is_queued, jobs_of, jobs_of_others, page_held_by, queued_again, refresh_dropped}
use Rattle.wk_wiki_rules.specs.Steps.{fan_pages}
use Rattle.wk_wiki_rules.proofs.Lists.{eqb_flips}
use Rattle.wk_wiki_rules.specs.States.{State}
use Rattle.wk_wiki_rules.specs.Events.{Event, Claim, Done, Back, step, step_by, with_jobs, with_refreshed}
use Rattle.wk_wiki_rules.specs.Lives.{replay_from}
use Rattle.wk_wiki_laws.specs.Tickets.{tickets_of}
use Rattle.wk_wiki_laws.proofs.TicketSteps.{brought-in}
use Rattle.wk_wiki_laws.proofs.Tickets.{at-find, tickets-again, tickets_in}
use Rattle.wk_wiki_laws.proofs.TicketsOut.{held-job}
use Rattle.wk_wiki_rules.specs.Starts.{Start}
use Rattle.wk_life_laws.specs.Runs.{IsRun}
use Rattle.wk_life_laws.proofs.RunFacts.{run_kept}
use Rattle.wk_life_laws.proofs.RunTickets.{run_claimed}
use Rattle.wk_core.specs.Seen.{WikiSeen}
use Rattle.wk_core.specs.Steps.{HasMade}
use Rattle.wk_tools.specs.Lived.{HasMadeEach}

-- ---- two events

pub made-twice : {K : Type 0} (old middle new : WikiSeen K) (a b : Event) → HasMade old middle a → HasMade middle new b → HasMadeEach old new (a ∷ b ∷ [])
made-twice old middle new a b first second =
    let longer : length middle.journal ≡ length old.journal + 1 = ap length first.journal ∙ length-append old.journal (a ∷ []) in
    let then : step middle.state (length old.journal + 1) b ≡ Some new.state = subst (λ n. step middle.state n b ≡ Some new.state) longer second.stepped in
    record {
      start = second.start ∙ first.start;
      journal = second.journal ∙ (ap (λ (j : List Event). j ++ b ∷ []) first.journal ∙ append_assoc old.journal (a ∷ []) (b ∷ []));
      replayed =
          ap (option_and_then (λ next. replay_from fan_pages next (length old.journal + 1) (b ∷ []))) first.stepped
          ∙ ap (option_and_then (λ next. replay_from fan_pages next (length old.journal + 1 + 1) [])) then;
    }

-- the steps of two events
pub record TwoSteps (state next : State) (journal : ℕ) (a b : Event) : Type 0 where
  pub middle : State
  pub first : step state journal a ≡ Some middle
  pub second : step middle (journal + 1) b ≡ Some next

last-step : (o : Option State) (next : State) (journal : ℕ) → option_and_then (λ s. replay_from fan_pages s journal []) o ≡ Some next → o ≡ Some next
last-step None next journal is = is
last-step (Some s) next journal is = is

pub two-steps : (state next : State) (journal : ℕ) (a b : Event) → replay_from fan_pages state journal (a ∷ b ∷ []) ≡ Some next → TwoSteps state next journal a b
two-steps state next journal a b done =
    option_and_then_some (λ s. replay_from fan_pages s (journal + 1) (b ∷ [])) (step_by fan_pages state journal a) next done
    (λ middle first later. record {
      middle = middle;
      first = first;
      second = last-step (step_by fan_pages middle (journal + 1) b) next (journal + 1 + 1) later;
    })

-- ---- the jobs

claimed-is : (state next : State) (journal : ℕ) → step state journal Claim ≡ Some next → (page : ℕ) × ((first_queued state.jobs ≡ Some page) × (with_jobs state (claimed_by state.jobs (journal + 1)) ≡ next))
claimed-is state next journal done = by (first_queued state.jobs) refl done
  where
    by : (o : Option ℕ) → first_queued state.jobs ≡ o → option_map (λ page. with_jobs state (claimed_by state.jobs (journal + 1))) o ≡ Some next
        → (page : ℕ) × ((first_queued state.jobs ≡ Some page) × (with_jobs state (claimed_by state.jobs (journal + 1)) ≡ next))
    by None first none = absurd (let e : None ≡ Some next = none in cc)
    by (Some page) first is = (page, (first, let got : Some (with_jobs state (claimed_by state.jobs (journal + 1))) ≡ Some next = is in cc))

length-claimed : (jobs : List RefreshEntry) (ticket : ℕ) → length (first_claimed jobs ticket) ≡ length jobs
length-claimed [] ticket = refl
length-claimed (job ∷ jobs) ticket =
    let later = length-claimed jobs ticket in
    elim (is_queued job) as (λ b. length (cond b (record job { ticket = Some ticket } ∷ jobs) (job ∷ first_claimed jobs ticket)) ≡ length (job ∷ jobs)) [ true ↦ refl | false ↦ omega (arith, later) ]

length-filter : (p : RefreshEntry → Bool) (jobs : List RefreshEntry) → length (filter p jobs) ≤ length jobs
length-filter p [] = omega arith
length-filter p (job ∷ jobs) =
    let later = length-filter p jobs in
    elim (p job) as (λ b. length (cond b (job ∷ filter p jobs) (filter p jobs)) ≤ length (job ∷ jobs)) [ true ↦ omega (arith, later) | false ↦ omega (arith, later) ]

length-others : (q : RefreshEntry → Bool) (jobs : List RefreshEntry) (job : RefreshEntry) → find q jobs ≡ Some job → length (jobs_of_others job.page jobs) < length jobs
length-others q [] job found = absurd (let e : None ≡ Some job = found in cc)
length-others q (x ∷ jobs) job found = elim (cases_Bool (q x)) [
  | inl first ↦
      let got : Some x ≡ Some job = rw first at found in
      let is : x ≡ job = cc in
      let own : eqb x.page job.page ≡ true = eq-eqb x.page job.page (ap (λ (j : RefreshEntry). j.page) is) in
      let fewer = length-filter (λ (j : RefreshEntry). not (eqb j.page job.page)) jobs in
      rw own (omega (arith, fewer))
  | inr other ↦
      let later = length-others q jobs job (rw other at found) in
      elim (cases_Bool (eqb x.page job.page)) [ inl own ↦ rw own (omega (arith, later)) | inr apart ↦ rw apart (omega (arith, later)) ]
]

-- ---- the tickets

others-stay : (page : ℕ) (jobs : List RefreshEntry) → AllByRecursion (λ n. nat_eq page n ≡ false) (map (λ (j : RefreshEntry). j.page) jobs) → jobs_of_others page jobs ≡ jobs
others-stay page [] apart = refl
others-stay page (job ∷ jobs) apart =
    let differs : eqb job.page page ≡ false = eqb_flips job.page page ∙ apart.0 in
    rw differs (ap (λ js. job ∷ js) (others-stay page jobs apart.1))

unclaimed-ticket : (job : RefreshEntry) → is_queued job ≡ true → job.ticket ≡ None
unclaimed-ticket job queued = by job.ticket queued
  where
    by : (o : Option ℕ) → is_none o ≡ true → o ≡ None
    by None free = refl
    by (Some n) free = absurd (let e : false ≡ true = free in cc)

-- a job that is claimed and goes takes its ticket with it
tickets-left : (ticket : ℕ) (jobs : List RefreshEntry) (job : RefreshEntry) → find is_queued jobs ≡ Some job → IsDistinct nat_eq (map (λ (j : RefreshEntry). j.page) jobs) → tickets_in (jobs_of_others job.page (first_claimed jobs ticket)) ≡ tickets_in jobs
unfolding IsDistinct
tickets-left ticket [] job found distinct = absurd (let e : None ≡ Some job = found in cc)
tickets-left ticket (x ∷ jobs) job found distinct = elim (cases_Bool (is_queued x)) [
  | inl queued ↦
      let got : Some x ≡ Some job = rw queued at found in
      let is : x ≡ job = cc in
      let own : eqb x.page job.page ≡ true = eq-eqb x.page job.page (ap (λ (j : RefreshEntry). j.page) is) in
      let free = unclaimed-ticket x queued in
      let apart = subst (λ (j : RefreshEntry). AllByRecursion (λ n. nat_eq j.page n ≡ false) (map (λ (k : RefreshEntry). k.page) jobs)) is distinct.0 in
      rw (queued, own, free) (ap tickets_in (others-stay job.page jobs apart))
  | inr claimed ↦
      let later = tickets-left ticket jobs job (rw claimed at found) distinct.1 in
      let differs : eqb x.page job.page ≡ false = at-find (λ n. nat_eq x.page n ≡ false) is_queued jobs job distinct.0 (rw claimed at found) in
      rw (claimed, differs) (ap (cons_option x.ticket) later)
]

-- ---- a refresh

-- what a claim leaves
record Claims (state middle : State) (journal page : ℕ) : Type 0 where
  is : with_jobs state (claimed_by state.jobs (journal + 1)) ≡ middle
  holds : page_held_by middle.jobs (journal + 1) ≡ Some page
  first : first_queued state.jobs ≡ Some page

module _ (start : Start) (journal : List Event) (state : State) (run : IsRun start journal state) where
  claims : (middle : State) → step state (length journal) Claim ≡ Some middle → (page : ℕ) × Claims state middle (length journal) page
  claims middle done =
      let is = claimed-is state middle (length journal) done in
      let holds = run_claimed start journal state run is.0 is.1.0 in
      (is.0, record { is = is.1.1; holds = subst (λ (s : State). page_held_by s.jobs (length journal + 1) ≡ Some is.0) is.1.1 holds; first = is.1.0 })

  first-job : (page : ℕ) → first_queued state.jobs ≡ Some page → (job : RefreshEntry) × ((find is_queued state.jobs.refreshes ≡ Some job) × (job.page ≡ page))
  first-job page first = by (find is_queued state.jobs.refreshes) refl first
    where
      by : (o : Option RefreshEntry) → find is_queued state.jobs.refreshes ≡ o → option_map (λ (j : RefreshEntry). j.page) o ≡ Some page → (job : RefreshEntry) × ((find is_queued state.jobs.refreshes ≡ Some job) × (job.page ≡ page))
      by None found none = absurd (let e : None ≡ Some page = none in cc)
      by (Some job) found is = (job, (found, let e : Some job.page ≡ Some page = is in cc))

  -- the tickets behind the claim, once the job of its page goes
  others-tickets : (page : ℕ) → first_queued state.jobs ≡ Some page → tickets_in (jobs_of_others page (first_claimed state.jobs.refreshes (length journal + 1))) ≡ tickets_in state.jobs.refreshes
  others-tickets page first =
      let job = first-job page first in
      let left = tickets-left (length journal + 1) state.jobs.refreshes job.0 job.1.0 (run_kept start journal state run).one_page in
      subst (λ p. tickets_in (jobs_of_others p (first_claimed state.jobs.refreshes (length journal + 1))) ≡ tickets_in state.jobs.refreshes) job.1.1 left

  same-page : (page other : ℕ) (o : Option ℕ) → o ≡ Some page → o ≡ Some other → other ≡ page
  same-page page other o one two = let e : Some other ≡ Some page = sym two ∙ one in cc

  -- ---- the page's rows are set

  pub done-jobs : (next : State) → replay_from fan_pages state (length journal) (Claim ∷ Done (length journal + 1) ∷ []) ≡ Some next
      → (page : ℕ) × ((first_queued state.jobs ≡ Some page) × ((next.jobs ≡ refresh_dropped (claimed_by state.jobs (length journal + 1)) page) × (next.history ≡ state.history)))
  done-jobs next done =
      let steps = two-steps state next (length journal) Claim (Done (length journal + 1)) done in
      let claim = claims steps.middle steps.first in
      let in_again = brought-in with_refreshed steps.middle next (length journal + 1) steps.second in
      let page : in_again.0 ≡ claim.0 = same-page claim.0 in_again.0 (page_held_by steps.middle.jobs (length journal + 1)) claim.1.holds in_again.1.0 in
      let by_middle : next.jobs ≡ refresh_dropped steps.middle.jobs claim.0 = ap (λ (s : State). s.jobs) (sym in_again.1.1) ∙ ap (refresh_dropped steps.middle.jobs) page in
      (claim.0, (claim.1.first, (by_middle ∙ ap (λ (s : State). refresh_dropped s.jobs claim.0) (sym claim.1.is), ap (λ (s : State). s.history) (sym in_again.1.1) ∙ ap (λ (s : State). s.history) (sym claim.1.is))))

  -- a job less is left
  pub fewer-left : (next : State) → replay_from fan_pages state (length journal) (Claim ∷ Done (length journal + 1) ∷ []) ≡ Some next → length next.jobs.refreshes < length state.jobs.refreshes
  fewer-left next done =
      let steps = two-steps state next (length journal) Claim (Done (length journal + 1)) done in
      let claim = claims steps.middle steps.first in
      let in_again = brought-in with_refreshed steps.middle next (length journal + 1) steps.second in
      let held = held-job steps.middle.jobs (length journal + 1) in_again.0 in_again.1.0 in
      let fewer = length-others (is_held_by (length journal + 1)) steps.middle.jobs.refreshes held.0 held.1.0 in
      let is : length next.jobs.refreshes ≡ length (jobs_of_others held.0.page steps.middle.jobs.refreshes) =
      ap (λ (s : State). length s.jobs.refreshes) (sym in_again.1.1) ∙ ap (λ p. length (jobs_of_others p steps.middle.jobs.refreshes)) (sym held.1.1) in
      let many : length steps.middle.jobs.refreshes ≡ length state.jobs.refreshes =
      ap (λ (s : State). length s.jobs.refreshes) (sym claim.1.is) ∙ length-claimed state.jobs.refreshes (length journal + 1) in
      omega (arith, fewer, is, many)

  pub done-tickets : (next : State) → replay_from fan_pages state (length journal) (Claim ∷ Done (length journal + 1) ∷ []) ≡ Some next → tickets_of next.jobs ≡ tickets_of state.jobs
  done-tickets next done =
      let jobs = done-jobs next done in
      ap tickets_of jobs.1.1.0 ∙ others-tickets jobs.0 jobs.1.0

  -- ---- the job is queued again

  pub back-jobs : (next : State) → replay_from fan_pages state (length journal) (Claim ∷ Back (length journal + 1) ∷ []) ≡ Some next
      → (page : ℕ) × ((first_queued state.jobs ≡ Some page) × ((next.jobs ≡ given_back (claimed_by state.jobs (length journal + 1)) page) × (next.history ≡ state.history)))
  back-jobs next done =
      let steps = two-steps state next (length journal) Claim (Back (length journal + 1)) done in
      let claim = claims steps.middle steps.first in
      let in_again = brought-in (λ s page. with_jobs s (given_back s.jobs page)) steps.middle next (length journal + 1) steps.second in
      let page : in_again.0 ≡ claim.0 = same-page claim.0 in_again.0 (page_held_by steps.middle.jobs (length journal + 1)) claim.1.holds in_again.1.0 in
      let by_middle : next.jobs ≡ given_back steps.middle.jobs claim.0 = ap (λ (s : State). s.jobs) (sym in_again.1.1) ∙ ap (given_back steps.middle.jobs) page in
      (claim.0, (claim.1.first, (by_middle ∙ ap (λ (s : State). given_back s.jobs claim.0) (sym claim.1.is), ap (λ (s : State). s.history) (sym in_again.1.1) ∙ ap (λ (s : State). s.history) (sym claim.1.is))))

  pub back-tickets : (next : State) → replay_from fan_pages state (length journal) (Claim ∷ Back (length journal + 1) ∷ []) ≡ Some next → tickets_of next.jobs ≡ tickets_of state.jobs
  back-tickets next done =
      let jobs = back-jobs next done in
      let claimed = first_claimed state.jobs.refreshes (length journal + 1) in
      ap tickets_of jobs.1.1.0
      ∙ (filter_map-append (λ (job : RefreshEntry). job.ticket) (jobs_of_others jobs.0 claimed) (map queued_again (jobs_of jobs.0 claimed))
      ∙ (ap (λ ts. tickets_in (jobs_of_others jobs.0 claimed) ++ ts) (tickets-again (jobs_of jobs.0 claimed))
      ∙ (append-nil (tickets_in (jobs_of_others jobs.0 claimed)) ∙ others-tickets jobs.0 jobs.1.0)))
