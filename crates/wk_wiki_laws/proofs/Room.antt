-- The journal that calls make and the tickets that are out stay within the limit.
use Rattle.std.proofs.Common.{◌≡◌, ℕ, ◌+◌, ◌≤◌, Bool, true, false, eqb, ltb, leb, ◌||◌, List, [], ◌∷◌, length, Option, Some, None, refl, sym, ap, ◌∙◌, inl, inr, subst, arith}
use Rattle.std.specs.Prelude.{option_map, is_some}
use Rattle.std.proofs.lemmas.Bool.{cases_Bool, or_parts, ltb-false, leb-false, leb-true, eq-eqb, ne_eqb}
use Rattle.std.proofs.lemmas.List.{length-append}
use Rattle.wk_text_rules.specs.Titles.{PageTitle}
use Rattle.wk_page_rules.specs.History.{can_save, page_exists, page_to_save}
use Rattle.wk_page_rules.specs.Verdict.{MostHeld, Verdict, refuse, no_change, accept, with_room, judged, journal_full, is_journal_full, max_job}
use Rattle.wk_wiki_rules.specs.Jobs.{FanEntry, first_queued, first_fan, page_held_by, claimed_by, given_back}
use Rattle.wk_wiki_rules.specs.Steps.{after_serving, by_number, next_served, reach_of_save}
use Rattle.wk_wiki_rules.specs.States.{State}
use Rattle.wk_wiki_rules.specs.Events.{Event, Save, Claim, Done, Back, Fan, stored_with, with_saved, with_refreshed, with_jobs, step_by}
use Rattle.wk_wiki_rules.specs.Lives.{reopened}
use Rattle.wk_wiki_rules.specs.Verdicts.{journal_use}
use Rattle.wk_wiki_rules.specs.Calls.{IsMade, by_save, by_claim, by_finish, by_give_back, by_fan, CallsMake, no_call, one_more}
use Rattle.wk_wiki_rules.specs.Room.{tickets_out, HasRoom}
use Rattle.wk_wiki_laws.proofs.TicketsOut.{out, out-queued, out-all_queued, out-claimed, out-again, out-dropped, out-given_back, out-one, refreshes-saved, refreshes-served}

-- what an option gives, where it gives something
pub given : {X Y : Type 0} (P : Y → Type 0) (f : X → Y) (o : Option X) (y : Y) → option_map f o ≡ Some y → ((x : X) → o ≡ Some x → P (f x)) → P y
given P f None y there all = absurd (let e : None ≡ Some y = there in cc)
given P f (Some x) y there all = let e : Some (f x) ≡ Some y = there in let same : f x ≡ y = cc in subst P same (all x refl)

pub accept-room : (full : Bool) (v : Verdict) (title : PageTitle) (text : Option (List ℕ)) → with_room full v ≡ accept title text → full ≡ false
accept-room full (refuse r) title text is = absurd (let e : refuse r ≡ accept title text = is in cc)
accept-room full (no_change t) title text is = absurd (let e : no_change t ≡ accept title text = is in cc)
accept-room true (accept t x) title text is = absurd (let e : refuse journal_full ≡ accept title text = is in cc)
accept-room false (accept t x) title text is = refl

-- a journal that isn't full has room for one event more
not-full : (most : MostHeld) (state : State) (journal : ℕ) → is_journal_full most (journal_use state journal) ≡ false → journal + tickets_out state + 1 ≤ most.journal
not-full most state journal room =
    let parts = or_parts (leb most.journal (journal + tickets_out state)) (ltb max_job state.jobs.next) room in
    let below = leb-false most.journal (journal + tickets_out state) parts.0 in
    omega (arith, below)

-- ---- the tickets after each event

pub out-step-save : (served : ℕ) (state next : State) (journal : ℕ) (title : PageTitle) (text : Option (List ℕ)) (moment : ℕ) → step_by served state journal (Save title text moment) ≡ Some next → tickets_out next ≡ tickets_out state
out-step-save served state next journal title text moment done = elim (cases_Bool (can_save state.history title text)) [
  | inl can ↦
      let after : Some (with_saved state title text moment) ≡ Some next = rw can at done in
      let same : with_saved state title text moment ≡ next = cc in
      let page = page_to_save state.history title in
      let refreshes = refreshes-saved (stored_with state title) state.jobs page title (reach_of_save (page_exists state.history title) (is_some text)) in
      ap (λ (s : State). tickets_out s) (sym same) ∙ (ap out refreshes ∙ out-queued state.jobs page)
  | inr cannot ↦ absurd (let e : None ≡ Some next = rw cannot at done in cc)
]

out-step-claim : (served : ℕ) (state next : State) (journal : ℕ) → step_by served state journal Claim ≡ Some next → tickets_out next ≤ tickets_out state + 1
out-step-claim served state next journal done =
    given (λ (s : State). tickets_out s ≤ tickets_out state + 1) (λ page. with_jobs state (claimed_by state.jobs (journal + 1))) (first_queued state.jobs) next done
    (λ page first. out-claimed state.jobs.refreshes (journal + 1))

out-step-done : (served : ℕ) (state next : State) (journal ticket : ℕ) → step_by served state journal (Done ticket) ≡ Some next → tickets_out next + 1 ≤ tickets_out state
out-step-done served state next journal ticket done =
    given (λ (s : State). tickets_out s + 1 ≤ tickets_out state) (λ page. with_refreshed state page) (page_held_by state.jobs ticket) next done
    (λ page holds. out-dropped state.jobs ticket page holds)

out-step-back : (served : ℕ) (state next : State) (journal ticket : ℕ) → step_by served state journal (Back ticket) ≡ Some next → tickets_out next + 1 ≤ tickets_out state
out-step-back served state next journal ticket done =
    given (λ (s : State). tickets_out s + 1 ≤ tickets_out state) (λ page. with_jobs state (given_back state.jobs page)) (page_held_by state.jobs ticket) next done
    (λ page holds. out-given_back state.jobs ticket page holds)

pub out-step-fan : (served : ℕ) (state next : State) (journal : ℕ) → step_by served state journal Fan ≡ Some next → tickets_out next ≡ tickets_out state
out-step-fan served state next journal done =
    by (first_fan state.jobs) done
  where
    by : (o : Option FanEntry) → option_map (λ jobs. with_jobs state jobs) (option_map (after_serving state.stored served state.jobs) o) ≡ Some next → tickets_out next ≡ tickets_out state
    by None none = absurd (let e : None ≡ Some next = none in cc)
    by (Some fan) is =
        let got : Some (with_jobs state (after_serving state.stored served state.jobs fan)) ≡ Some next = is in
        let same : with_jobs state (after_serving state.stored served state.jobs fan) ≡ next = cc in
        ap (λ (s : State). tickets_out s) (sym same) ∙ (ap out (refreshes-served state.stored served state.jobs fan) ∙ out-all_queued state.jobs (next_served state.stored served fan))

-- ---- room

pub room-step : (most : MostHeld) (served : ℕ) (state next : State) (journal : ℕ) (event : Event) → IsMade most state journal event → step_by served state journal event ≡ Some next → HasRoom most state journal → HasRoom most next (journal + 1)
room-step most served state next journal (Save title text moment) (by_save edit is) done room =
    let free = not-full most state journal (accept-room (is_journal_full most (journal_use state journal)) (judged state.history most edit) title text is) in
    let same = out-step-save served state next journal title text moment done in
    omega (arith, free, same)
room-step most served state next journal Claim (by_claim free) done room =
    let two = ltb-false most.journal (journal + tickets_out state + 2) free in
    let more = out-step-claim served state next journal done in
    omega (arith, two, more)
room-step most served state next journal (Done ticket) (by_finish page holds) done room =
    let less = out-step-done served state next journal ticket done in
    omega (arith, less, room)
room-step most served state next journal (Back ticket) by_give_back done room =
    let less = out-step-back served state next journal ticket done in
    omega (arith, less, room)
room-step most served state next journal Fan (by_fan free) done room =
    let one = not-full most state journal free in
    let same = out-step-fan served state next journal done in
    omega (arith, one, same)

pub room-calls : (served : ℕ) (most : MostHeld) (start last : State) (events : List Event) → HasRoom most start 0 → CallsMake served most start events last → HasRoom most last (length events)
room-calls served most start last [] room no_call = room
room-calls served most start last events room (one_more {state = state} {events = before} {event = event} calls made done) =
    let earlier = room-calls served most start state before room calls in
    let longer = length-append before (event ∷ []) in
    let now = room-step most served state last (length before) event made done earlier in
    omega (arith, longer, now)

-- the journal is full where it reaches the limit, and never passes it
pub full-calls : (served : ℕ) (most : MostHeld) (start last : State) (events : List Event) → HasRoom most start 0 → CallsMake served most start events last
    → is_journal_full most (journal_use last (length events)) ≡ (eqb (length events + tickets_out last) most.journal || ltb max_job last.jobs.next)
full-calls served most start last events room calls =
    let within = room-calls served most start last events room calls in
    ap (λ b. b || ltb max_job last.jobs.next) (same (length events + tickets_out last) most.journal within)
  where
    same : (used most : ℕ) → used ≤ most → leb most used ≡ eqb used most
    same used most within = elim (cases_Bool (leb most used)) [
      | inl reached ↦ let up = leb-true most used reached in reached ∙ sym (eq-eqb used most (omega (arith, up, within)))
      | inr under ↦ let low = leb-false most used under in under ∙ sym (ne_eqb used most (λ e. omega (arith, e, low)))
    ]

pub back-calls : (served : ℕ) (most : MostHeld) (start last : State) (events : List Event) (ticket page : ℕ) → HasRoom most start 0 → CallsMake served most start events last → page_held_by last.jobs ticket ≡ Some page → length events + 1 ≤ most.journal
back-calls served most start last events ticket page room calls holds =
    let within = room-calls served most start last events room calls in
    let one = out-one last.jobs ticket page holds in
    omega (arith, within, one)

pub out-reopened : (state : State) → tickets_out (reopened state) ≡ 0
out-reopened state = out-again (by_number (λ job. job.number) state.jobs.refreshes)
