-- Which tickets are out after each event, and over a journal.
use Rattle.std.proofs.Common.{◌≡◌, ◌≢◌, ℕ, ◌+◌, true, eqb, not, List, [], ◌∷◌, ◌++◌, length, map, Option, Some, None, refl, sym, ap, ◌∙◌, inl, inr, subst, arith}
use Rattle.std.specs.Prelude.{find, option_map, option_and_then, is_some, nat_eq, slice_get, IsSome}
use Rattle.std.specs.List.{AllByRecursion, IsDistinct, cons_option}
use Rattle.std.proofs.lemmas.Bool.{cases_Bool, ne_eqb}
use Rattle.std.proofs.lemmas.List.{length-append, append-nil, append_assoc}
use Rattle.std.proofs.lemmas.Option.{option_and_then_some}
use Rattle.wk_text_rules.specs.Titles.{PageTitle}
use Rattle.wk_page_rules.specs.History.{can_save, page_exists, page_to_save}
use Rattle.wk_wiki_rules.specs.Jobs.{RefreshEntry, FanEntry, IsOneAPage, is_queued, is_held_by, first_queued, first_fan, jobs_of, jobs_of_others, queued_again, refresh_queued, claimed_by, given_back, page_held_by}
use Rattle.wk_wiki_rules.specs.Steps.{all_queued, after_serving, by_number, next_served, reach_of_save}
use Rattle.wk_wiki_rules.proofs.JobLemmas.{IsOneAPage-claimed, IsOneAPage-given_back, IsOneAPage-dropped, IsOneAPage-saved, IsOneAPage-served}
use Rattle.wk_wiki_rules.specs.States.{State}
use Rattle.wk_wiki_rules.specs.Events.{Event, Save, Claim, Done, Back, Fan, stored_with, with_saved, with_refreshed, with_jobs, step_by}
use Rattle.wk_wiki_rules.specs.Lives.{replay_from, replay_by, reopened}
use Rattle.wk_wiki_rules.specs.Entries.{closes}
use Rattle.wk_wiki_rules.specs.Room.{tickets_out}
use Rattle.wk_wiki_laws.specs.Tickets.{tickets_of, IsOpenClaim}
use Rattle.wk_wiki_laws.proofs.Parts.{replay-append, replay-last}
use Rattle.wk_wiki_laws.proofs.Room.{given}
use Rattle.wk_wiki_laws.proofs.TicketsOut.{held-ticket, held-job, refreshes-saved, refreshes-served}
use Rattle.wk_wiki_laws.proofs.Tickets.{within-claim, pages-differ, find-claimed, find-all_queued, find-queued, find-filter, find-front, tickets-again, tickets-queued, tickets-all_queued, tickets_in, AreTickets, AreTickets-none, AreTickets-other, AreTickets-claim, AreTickets-closed}

-- ---- what each event does to the refresh jobs

-- a save that was made
pub saved-is : (served : ℕ) (state next : State) (journal : ℕ) (title : PageTitle) (text : Option (List ℕ)) (moment : ℕ) → step_by served state journal (Save title text moment) ≡ Some next
    → (can_save state.history title text ≡ true) × (with_saved state title text moment ≡ next)
saved-is served state next journal title text moment done = elim (cases_Bool (can_save state.history title text)) [
  | inl can ↦ (can, let after : Some (with_saved state title text moment) ≡ Some next = rw can at done in cc)
  | inr cannot ↦ absurd (let e : None ≡ Some next = rw cannot at done in cc)
]

refreshes-step-save : (served : ℕ) (state next : State) (journal : ℕ) (title : PageTitle) (text : Option (List ℕ)) (moment : ℕ) → step_by served state journal (Save title text moment) ≡ Some next
    → next.jobs.refreshes ≡ (refresh_queued state.jobs (page_to_save state.history title)).refreshes
refreshes-step-save served state next journal title text moment done =
    let is = saved-is served state next journal title text moment done in
    ap (λ (s : State). s.jobs.refreshes) (sym is.1)
    ∙ refreshes-saved (stored_with state title) state.jobs (page_to_save state.history title) title (reach_of_save (page_exists state.history title) (is_some text))

-- the fan that was served
pub fanned-is : (served : ℕ) (state next : State) (journal : ℕ) → step_by served state journal Fan ≡ Some next
    → (fan : FanEntry) × ((first_fan state.jobs ≡ Some fan) × (with_jobs state (after_serving state.stored served state.jobs fan) ≡ next))
fanned-is served state next journal done = by (first_fan state.jobs) refl done
  where
    by : (o : Option FanEntry) → first_fan state.jobs ≡ o → option_map (λ jobs. with_jobs state jobs) (option_map (after_serving state.stored served state.jobs) o) ≡ Some next
        → (fan : FanEntry) × ((first_fan state.jobs ≡ Some fan) × (with_jobs state (after_serving state.stored served state.jobs fan) ≡ next))
    by None first none = absurd (let e : None ≡ Some next = none in cc)
    by (Some fan) first is = (fan, (first, let got : Some (with_jobs state (after_serving state.stored served state.jobs fan)) ≡ Some next = is in cc))

refreshes-step-fan : (served : ℕ) (state next : State) (journal : ℕ) → step_by served state journal Fan ≡ Some next → (pages : List ℕ) × (next.jobs.refreshes ≡ (all_queued state.jobs pages).refreshes)
refreshes-step-fan served state next journal done =
    let is = fanned-is served state next journal done in
    let pages = next_served state.stored served is.0 in
    (pages, ap (λ (s : State). s.jobs.refreshes) (sym is.1.1) ∙ refreshes-served state.stored served state.jobs is.0)

-- the page of a ticket, by an event that brings it in
pub brought-in : (f : State → ℕ → State) (state next : State) (ticket : ℕ) → option_map (f state) (page_held_by state.jobs ticket) ≡ Some next
    → (page : ℕ) × ((page_held_by state.jobs ticket ≡ Some page) × (f state page ≡ next))
brought-in f state next ticket done = by (page_held_by state.jobs ticket) refl done
  where
    by : (o : Option ℕ) → page_held_by state.jobs ticket ≡ o → option_map (f state) o ≡ Some next → (page : ℕ) × ((page_held_by state.jobs ticket ≡ Some page) × (f state page ≡ next))
    by None none is = absurd (let e : None ≡ Some next = is in cc)
    by (Some page) holds is = (page, (holds, let got : Some (f state page) ≡ Some next = is in cc))

-- ---- one refresh job a page

pub one-page-step : (served : ℕ) (state next : State) (journal : ℕ) (event : Event) → step_by served state journal event ≡ Some next → IsOneAPage state.jobs → IsOneAPage next.jobs
one-page-step served state next journal (Save title text moment) done one =
    let is = saved-is served state next journal title text moment done in
    subst (λ (s : State). IsOneAPage s.jobs) is.1
    (IsOneAPage-saved (stored_with state title) state.jobs (page_to_save state.history title) title (reach_of_save (page_exists state.history title) (is_some text)) one)
one-page-step served state next journal Claim done one =
    given (λ (s : State). IsOneAPage s.jobs) (λ page. with_jobs state (claimed_by state.jobs (journal + 1))) (first_queued state.jobs) next done (λ page first. IsOneAPage-claimed state.jobs (journal + 1) one)
one-page-step served state next journal (Done ticket) done one =
    given (λ (s : State). IsOneAPage s.jobs) (λ page. with_refreshed state page) (page_held_by state.jobs ticket) next done (λ page holds. IsOneAPage-dropped state.jobs page one)
one-page-step served state next journal (Back ticket) done one =
    given (λ (s : State). IsOneAPage s.jobs) (λ page. with_jobs state (given_back state.jobs page)) (page_held_by state.jobs ticket) next done (λ page holds. IsOneAPage-given_back state.jobs page one)
one-page-step served state next journal Fan done one =
    let is = fanned-is served state next journal done in
    subst (λ (s : State). IsOneAPage s.jobs) is.1.1 (IsOneAPage-served state.stored served state.jobs is.0 one)

-- ---- the tickets after each event

-- the ticket of a job that is found is that of an open claim
open-held : (events : List Event) (jobs : List RefreshEntry) (ticket : ℕ) (job : RefreshEntry) → AreTickets events jobs → find (is_held_by ticket) jobs ≡ Some job → IsOpenClaim events ticket
open-held events jobs ticket job were found = by jobs were.open_ones found
  where
    by : (js : List RefreshEntry) → AllByRecursion (IsOpenClaim events) (tickets_in js) → find (is_held_by ticket) js ≡ Some job → IsOpenClaim events ticket
    by [] all none = absurd (let e : None ≡ Some job = none in cc)
    by (j ∷ js) all there = let later = by js in elim (cases_Bool (is_held_by ticket j)) [
      | inl held ↦ first (held-ticket ticket j held) all
      | inr other ↦ later (rest j.ticket all) (rw other at there)
    ]
      where
        first : j.ticket ≡ Some ticket → AllByRecursion (IsOpenClaim events) (tickets_in (j ∷ js)) → IsOpenClaim events ticket
        first is every = (subst (λ o. AllByRecursion (IsOpenClaim events) (cons_option o (tickets_in js))) is every).0

        rest : (o : Option ℕ) → AllByRecursion (IsOpenClaim events) (cons_option o (tickets_in js)) → AllByRecursion (IsOpenClaim events) (tickets_in js)
        rest None every = every
        rest (Some n) every = every.1

no-save : (title : PageTitle) (text : Option (List ℕ)) (moment : ℕ) → Save title text moment ≢ Claim
no-save title text moment e = cc

tickets-step : (served : ℕ) (events : List Event) (state next : State) (event : Event) → step_by served state (length events) event ≡ Some next → IsOneAPage state.jobs → AreTickets events state.jobs.refreshes → AreTickets (events ++ event ∷ []) next.jobs.refreshes
tickets-step served events state next (Save title text moment) done one were =
    let same = refreshes-step-save served state next (length events) title text moment done in
    let page = page_to_save state.history title in
    subst (AreTickets (events ++ Save title text moment ∷ [])) (sym same)
    (AreTickets-other events (Save title text moment) state.jobs.refreshes (refresh_queued state.jobs page).refreshes refl (no-save title text moment) (tickets-queued state.jobs page) (λ ticket job. find-queued (is_held_by ticket) state.jobs page job) were)
tickets-step served events state next Claim done one were = by (find is_queued state.jobs.refreshes) refl done
  where
    by : (o : Option RefreshEntry) → find is_queued state.jobs.refreshes ≡ o → option_map (λ page. with_jobs state (claimed_by state.jobs (length events + 1))) (option_map (λ (job : RefreshEntry). job.page) o) ≡ Some next → AreTickets (events ++ Claim ∷ []) next.jobs.refreshes
    by None none is = absurd (let e : None ≡ Some next = is in cc)
    by (Some x) queued is =
        let got : Some (with_jobs state (claimed_by state.jobs (length events + 1))) ≡ Some next = is in
        let same : with_jobs state (claimed_by state.jobs (length events + 1)) ≡ next = cc in
        subst (λ (s : State). AreTickets (events ++ Claim ∷ []) s.jobs.refreshes) same (AreTickets-claim events state.jobs.refreshes x queued were)
tickets-step served events state next (Done ticket) done one were =
    let is = brought-in with_refreshed state next ticket done in
    let job = held-job state.jobs ticket is.0 is.1.0 in
    let own = open-held events state.jobs.refreshes ticket job.0 were job.1.0 in
    let after = AreTickets-closed events (Done ticket) ticket state.jobs.refreshes [] job.0 refl (λ e. let wrong : Done ticket ≡ Claim = e in cc) job.1.0 refl one own were in
    let less : AreTickets (events ++ Done ticket ∷ []) (jobs_of_others job.0.page state.jobs.refreshes) = subst (AreTickets (events ++ Done ticket ∷ [])) (append-nil (jobs_of_others job.0.page state.jobs.refreshes)) after in
    let at_page = subst (λ n. AreTickets (events ++ Done ticket ∷ []) (jobs_of_others n state.jobs.refreshes)) job.1.1 less in
    subst (λ (s : State). AreTickets (events ++ Done ticket ∷ []) s.jobs.refreshes) is.1.1 at_page
tickets-step served events state next (Back ticket) done one were =
    let is = brought-in (λ s page. with_jobs s (given_back s.jobs page)) state next ticket done in
    let job = held-job state.jobs ticket is.0 is.1.0 in
    let own = open-held events state.jobs.refreshes ticket job.0 were job.1.0 in
    let more = map queued_again (jobs_of job.0.page state.jobs.refreshes) in
    let after = AreTickets-closed events (Back ticket) ticket state.jobs.refreshes more job.0 refl (λ e. let wrong : Back ticket ≡ Claim = e in cc) job.1.0 (tickets-again (jobs_of job.0.page state.jobs.refreshes)) one own were in
    let at_page = subst (λ n. AreTickets (events ++ Back ticket ∷ []) (jobs_of_others n state.jobs.refreshes ++ map queued_again (jobs_of n state.jobs.refreshes))) job.1.1 after in
    subst (λ (s : State). AreTickets (events ++ Back ticket ∷ []) s.jobs.refreshes) is.1.1 at_page
tickets-step served events state next Fan done one were =
    let is = refreshes-step-fan served state next (length events) done in
    subst (AreTickets (events ++ Fan ∷ [])) (sym is.1)
    (AreTickets-other events Fan state.jobs.refreshes (all_queued state.jobs is.0).refreshes refl (λ e. let wrong : Fan ≡ Claim = e in cc) (tickets-all_queued state.jobs is.0) (λ ticket job. find-all_queued (is_held_by ticket) state.jobs is.0 job) were)

-- ---- over a journal

tickets-replay : (served : ℕ) (before : List Event) (state last : State) (journal : ℕ) (events : List Event) → length before ≡ journal → replay_from served state journal events ≡ Some last → IsOneAPage state.jobs → AreTickets before state.jobs.refreshes
    → IsOneAPage last.jobs × AreTickets (before ++ events) last.jobs.refreshes
tickets-replay served before state last journal [] at done one were =
    let e : Some state ≡ Some last = done in
    let same : state ≡ last = cc in
    (subst (λ (s : State). IsOneAPage s.jobs) same one, rw append-nil (subst (λ (s : State). AreTickets before s.jobs.refreshes) same were))
tickets-replay served before state last journal (event ∷ events) at done one were =
    by (step_by served state journal event) refl done (λ next. tickets-replay served (before ++ event ∷ []) next last (journal + 1) events)
  where
    by : (o : Option State) → step_by served state journal event ≡ o → option_and_then (λ next. replay_from served next (journal + 1) events) o ≡ Some last
        → ((next : State) → length (before ++ event ∷ []) ≡ journal + 1 → replay_from served next (journal + 1) events ≡ Some last → IsOneAPage next.jobs → AreTickets (before ++ event ∷ []) next.jobs.refreshes → IsOneAPage last.jobs × AreTickets ((before ++ event ∷ []) ++ events) last.jobs.refreshes)
        → IsOneAPage last.jobs × AreTickets (before ++ event ∷ events) last.jobs.refreshes
    by None none is later = absurd (let e : None ≡ Some last = is in cc)
    by (Some next) stepped is later =
        let longer = length-append before (event ∷ []) in
        let here : step_by served state (length before) event ≡ Some next = subst (λ n. step_by served state n event ≡ Some next) (sym at) stepped in
        let one_next = one-page-step served state next (length before) event here one in
        let after = later next (omega (arith, longer, at)) is one_next (tickets-step served before state next event here one were) in
        (after.0, subst (λ all. AreTickets all last.jobs.refreshes) (append_assoc before (event ∷ []) events) after.1)

tickets-from : (served : ℕ) (start last : State) (events : List Event) → IsOneAPage start.jobs → tickets_out start ≡ 0 → replay_by served start events ≡ Some last → IsOneAPage last.jobs × AreTickets events last.jobs.refreshes
tickets-from served start last events one none done = tickets-replay served [] start last 0 events refl done one (AreTickets-none start.jobs.refreshes none)

pub out-is-open : (served : ℕ) (start last : State) (events : List Event) (ticket page : ℕ) → IsOneAPage start.jobs → tickets_out start ≡ 0 → replay_by served start events ≡ Some last → page_held_by last.jobs ticket ≡ Some page → IsOpenClaim events ticket
out-is-open served start last events ticket page one none done holds =
    let job = held-job last.jobs ticket page holds in
    open-held events last.jobs.refreshes ticket job.0 (tickets-from served start last events one none done).1 job.1.0

pub open-is-out : (served : ℕ) (start last : State) (events : List Event) (ticket : ℕ) → IsOneAPage start.jobs → tickets_out start ≡ 0 → replay_by served start events ≡ Some last → IsOpenClaim events ticket → IsSome (page_held_by last.jobs ticket)
open-is-out served start last events ticket one none done is_open =
    let job = ((tickets-from served start last events one none done).1).held ticket is_open in
    ap (λ o. is_some (option_map (λ (j : RefreshEntry). j.page) o)) job.1

pub tickets-differ : (served : ℕ) (start last : State) (events : List Event) → IsOneAPage start.jobs → tickets_out start ≡ 0 → replay_by served start events ≡ Some last → IsDistinct nat_eq (tickets_of last.jobs)
tickets-differ served start last events one none done = ((tickets-from served start last events one none done).1).apart

-- ---- a ticket stays out

find-others : (state : State) (ticket other page : ℕ) (job : RefreshEntry) → IsOneAPage state.jobs → other ≢ ticket → page_held_by state.jobs other ≡ Some page → find (is_held_by ticket) state.jobs.refreshes ≡ Some job
    → find (is_held_by ticket) (jobs_of_others page state.jobs.refreshes) ≡ Some job
find-others state ticket other page job one apart holds found =
    let gone = held-job state.jobs other page holds in
    let differ = pages-differ ticket other (λ e. apart (sym e)) state.jobs.refreshes job gone.0 one found gone.1.0 in
    let passes : not (eqb job.page page) ≡ true = ap not (ne_eqb job.page page (λ e. differ (e ∙ sym gone.1.1))) in
    find-filter (is_held_by ticket) (λ (j : RefreshEntry). not (eqb j.page page)) state.jobs.refreshes job found passes

find-step : (served : ℕ) (events : List Event) (state next : State) (event : Event) (ticket : ℕ) (job : RefreshEntry) → step_by served state (length events) event ≡ Some next → IsOneAPage state.jobs → AreTickets events state.jobs.refreshes
    → event ≢ Done ticket → event ≢ Back ticket → find (is_held_by ticket) state.jobs.refreshes ≡ Some job → find (is_held_by ticket) next.jobs.refreshes ≡ Some job
find-step served events state next (Save title text moment) ticket job done one were not_done not_back found =
    let same = refreshes-step-save served state next (length events) title text moment done in
    rw same (find-queued (is_held_by ticket) state.jobs (page_to_save state.history title) job found)
find-step served events state next Claim ticket job done one were not_done not_back found =
    let low = within-claim events ticket (open-held events state.jobs.refreshes ticket job were found) in
    given (λ (s : State). find (is_held_by ticket) s.jobs.refreshes ≡ Some job) (λ page. with_jobs state (claimed_by state.jobs (length events + 1))) (first_queued state.jobs) next done
    (λ page first. find-claimed ticket (length events + 1) (λ same. omega (arith, low, same)) state.jobs.refreshes job found)
find-step served events state next (Done other) ticket job done one were not_done not_back found =
    let is = brought-in with_refreshed state next other done in
    subst (λ (s : State). find (is_held_by ticket) s.jobs.refreshes ≡ Some job) is.1.1
    (find-others state ticket other is.0 job one (λ e. not_done (ap Done e)) is.1.0 found)
find-step served events state next (Back other) ticket job done one were not_done not_back found =
    let is = brought-in (λ s page. with_jobs s (given_back s.jobs page)) state next other done in
    subst (λ (s : State). find (is_held_by ticket) s.jobs.refreshes ≡ Some job) is.1.1
    (find-front (is_held_by ticket) (jobs_of_others is.0 state.jobs.refreshes) (map queued_again (jobs_of is.0 state.jobs.refreshes)) job
    (find-others state ticket other is.0 job one (λ e. not_back (ap Back e)) is.1.0 found))
find-step served events state next Fan ticket job done one were not_done not_back found =
    let is = refreshes-step-fan served state next (length events) done in
    rw is.1 (find-all_queued (is_held_by ticket) state.jobs is.0 job found)

pub ticket-stays : (served : ℕ) (start state next : State) (events : List Event) (event : Event) (ticket page : ℕ) → IsOneAPage start.jobs → tickets_out start ≡ 0 → replay_by served start events ≡ Some state → replay_by served start (events ++ event ∷ []) ≡ Some next
    → page_held_by state.jobs ticket ≡ Some page → event ≢ Done ticket → event ≢ Back ticket → page_held_by next.jobs ticket ≡ Some page
ticket-stays served start state next events event ticket page one none before after holds not_done not_back =
    let stepped = replay-last served start state next events event before after in
    let were = tickets-from served start state events one none before in
    let job = held-job state.jobs ticket page holds in
    let found = find-step served events state next event ticket job.0 stepped were.0 were.1 not_done not_back job.1.0 in
    ap (λ o. option_map (λ (j : RefreshEntry). j.page) o) found ∙ ap (λ n. Some n) job.1.1

-- ---- many events

get-at : (xs : List Event) (y : Event) (ys : List Event) → slice_get (xs ++ y ∷ ys) (length xs) ≡ Some y
get-at [] y ys = refl
get-at (x ∷ xs) y ys = get-at xs y ys

pub ticket-held : (served : ℕ) (start state next : State) (events more : List Event) (ticket page : ℕ) → IsOneAPage start.jobs → tickets_out start ≡ 0 → replay_by served start events ≡ Some state → replay_by served start (events ++ more) ≡ Some next
    → page_held_by state.jobs ticket ≡ Some page → IsOpenClaim (events ++ more) ticket → page_held_by next.jobs ticket ≡ Some page
ticket-held served start state next events [] ticket page one none here there holds is_open =
    let same : Some state ≡ Some next = sym here ∙ ap (replay_by served start) (sym (append-nil events)) ∙ there in
    let at : state ≡ next = cc in
    subst (λ (s : State). page_held_by s.jobs ticket ≡ Some page) at holds
ticket-held served start state next events (event ∷ more) ticket page one none here there holds is_open =
    let joins = append_assoc events (event ∷ []) more in
    let whole : replay_by served start ((events ++ event ∷ []) ++ more) ≡ Some next = ap (replay_by served start) joins ∙ there in
    let parts = replay-append served start 0 (events ++ event ∷ []) more in
    option_and_then_some (λ middle. replay_from served middle (0 + length (events ++ event ∷ [])) more) (replay_from served start 0 (events ++ event ∷ [])) next (sym parts ∙ whole)
    (λ middle first later.
    let held_here = out-is-open served start state events ticket page one none here holds in
    let apart = is_open.unclosed (length events) event (within-claim events ticket held_here) (get-at events event more) in
    let stays = ticket-stays served start state middle events event ticket page one none here first holds (λ e. apart (ap closes e)) (λ e. apart (ap closes e)) in
    ticket-held served start middle next (events ++ event ∷ []) more ticket page one none first whole stays (subst (λ (l : List Event). IsOpenClaim l ticket) (sym joins) is_open))

-- ---- a restart

none-again : (ticket : ℕ) (jobs : List RefreshEntry) → find (is_held_by ticket) (map queued_again jobs) ≡ None
none-again ticket [] = refl
none-again ticket (job ∷ jobs) = none-again ticket jobs

pub none-reopened : (state : State) (ticket : ℕ) → page_held_by (reopened state).jobs ticket ≡ None
none-reopened state ticket = ap (λ o. option_map (λ (j : RefreshEntry). j.page) o) (none-again ticket (by_number (λ (job : RefreshEntry). job.number) state.jobs.refreshes))
