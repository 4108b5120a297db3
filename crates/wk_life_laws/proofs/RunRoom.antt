-- Room in the journal that a wiki tells.
use Rattle.std.proofs.Common.{◌≡◌, Bool, ℕ, ◌+◌, ◌≤◌, ◌<◌, true, false, ◌||◌, eqb, leb, ltb, List, length, Option, Some, refl, ap₂, ap, inl, inr, arith}
use Rattle.std.proofs.lemmas.Bool.{cases_Bool, leb-true, leb-false, ltb-true, ltb-false, or_parts}
use Rattle.wk_text_rules.specs.Titles.{PageTitle}
use Rattle.wk_page_rules.specs.Verdict.{EditAsked, MostHeld, Refusal, accept, is_journal_full, journal_full, judged, max_job, no_change, refuse, with_room}
use Rattle.wk_wiki_rules.specs.Jobs.{page_held_by}
use Rattle.wk_wiki_rules.specs.Steps.{fan_pages}
use Rattle.wk_wiki_rules.specs.States.{State}
use Rattle.wk_wiki_rules.specs.Events.{Event}
use Rattle.wk_wiki_rules.specs.Verdicts.{journal_use, verdict_in}
use Rattle.wk_wiki_laws.proofs.KeptStates.{with_room-accept}
use Rattle.wk_wiki_rules.specs.Room.{HasRoom, is_claim_refused, tickets_out}
use Rattle.wk_wiki_rules.specs.Starts.{Start}
use Rattle.wk_wiki_laws.proofs.Room.{back-calls, full-calls, room-calls}
use Rattle.wk_wiki_laws.proofs.TicketsOut.{out-one}
use Rattle.wk_life_laws.specs.Runs.{IsRun}

-- ---- a run

module _ (start : Start) (journal : List Event) (state : State) (run : IsRun start journal state) where
  room-at-start : HasRoom start.limits start.state 0
  room-at-start = let none = run.none_out in omega (arith, none)

  pub run_room : length journal + tickets_out state ≤ start.limits.journal
  run_room = room-calls fan_pages start.limits start.state state journal room-at-start run.calls

  pub run_full : is_journal_full start.limits (journal_use state (length journal)) ≡ (eqb (length journal + tickets_out state) start.limits.journal || ltb max_job state.jobs.next)
  run_full = full-calls fan_pages start.limits start.state state journal room-at-start run.calls

  pub run_give_back : (ticket page : ℕ) → page_held_by state.jobs ticket ≡ Some page → (length journal + 1 ≤ start.limits.journal) × (1 ≤ tickets_out state)
  run_give_back ticket page holds = (back-calls fan_pages start.limits start.state state journal ticket page room-at-start run.calls holds, out-one state.jobs ticket page holds)

-- ---- numbers

leb-is : (a b : ℕ) → a ≤ b → leb a b ≡ true
leb-is a b low = elim (cases_Bool (leb a b)) [ inl is ↦ is | inr is_not ↦ absurd (let up = leb-false a b is_not in omega (arith, up, low)) ]

leb-not : (a b : ℕ) → b < a → leb a b ≡ false
leb-not a b low = elim (cases_Bool (leb a b)) [ inl is ↦ absurd (let up = leb-true a b is in omega (arith, up, low)) | inr is_not ↦ is_not ]

ltb-is : (a b : ℕ) → a < b → ltb a b ≡ true
ltb-is a b low = elim (cases_Bool (ltb a b)) [ inl is ↦ is | inr is_not ↦ absurd (let up = ltb-false a b is_not in omega (arith, up, low)) ]

ltb-not : (a b : ℕ) → b ≤ a → ltb a b ≡ false
ltb-not a b low = elim (cases_Bool (ltb a b)) [ inl is ↦ absurd (let up = ltb-true a b is in omega (arith, up, low)) | inr is_not ↦ is_not ]

or-right : (a b : Bool) → b ≡ true → (a || b) ≡ true
or-right true b is = refl
or-right false b is = is

module _ (most : MostHeld) (state : State) (point : ℕ) where
  pub not_full : point + tickets_out state < most.journal → state.jobs.next ≤ max_job → is_journal_full most (journal_use state point) ≡ false
  not_full room numbers = ap₂ (λ a b. a || b) (leb-not most.journal (point + tickets_out state) room) (ltb-not max_job state.jobs.next numbers)

  pub full_journal : most.journal ≤ point + tickets_out state → is_journal_full most (journal_use state point) ≡ true
  full_journal reached = ap (λ a. a || ltb max_job state.jobs.next) (leb-is most.journal (point + tickets_out state) reached)

  pub full_numbers : max_job < state.jobs.next → is_journal_full most (journal_use state point) ≡ true
  full_numbers past = or-right (leb most.journal (point + tickets_out state)) (ltb max_job state.jobs.next) (ltb-is max_job state.jobs.next past)

  pub not_full_only : is_journal_full most (journal_use state point) ≡ false → (point + tickets_out state < most.journal) × (state.jobs.next ≤ max_job)
  not_full_only free =
      let parts = or_parts (leb most.journal (point + tickets_out state)) (ltb max_job state.jobs.next) free in
      (leb-false most.journal (point + tickets_out state) parts.0, ltb-false max_job state.jobs.next parts.1)

  pub claim_room : point + tickets_out state + 2 ≤ most.journal → is_claim_refused most state point ≡ false
  claim_room room = ltb-not most.journal (point + tickets_out state + 2) room

  pub no_claim_room : most.journal < point + tickets_out state + 2 → is_claim_refused most state point ≡ true
  no_claim_room full = ltb-is most.journal (point + tickets_out state + 2) full

  pub claim_room_only : is_claim_refused most state point ≡ false → point + tickets_out state + 2 ≤ most.journal
  claim_room_only free = ltb-false most.journal (point + tickets_out state + 2) free

  -- ---- verdicts

  pub accepted_in : (edit : EditAsked) (title : PageTitle) (text : Option (List ℕ)) → judged state.history most edit ≡ accept title text → is_journal_full most (journal_use state point) ≡ false → verdict_in most state point edit ≡ accept title text
  accepted_in edit title text is free = ap₂ with_room free is

  pub full_in : (edit : EditAsked) (title : PageTitle) (text : Option (List ℕ)) → judged state.history most edit ≡ accept title text → is_journal_full most (journal_use state point) ≡ true → verdict_in most state point edit ≡ refuse journal_full
  full_in edit title text is full = ap₂ with_room full is

  pub refused_in : (edit : EditAsked) (refusal : Refusal) → judged state.history most edit ≡ refuse refusal → verdict_in most state point edit ≡ refuse refusal
  refused_in edit refusal is = ap (with_room (is_journal_full most (journal_use state point))) is

  pub unchanged_in : (edit : EditAsked) (title : PageTitle) → judged state.history most edit ≡ no_change title → verdict_in most state point edit ≡ no_change title
  unchanged_in edit title is = ap (with_room (is_journal_full most (journal_use state point))) is

  pub accepted_only : (edit : EditAsked) (title : PageTitle) (text : Option (List ℕ)) → verdict_in most state point edit ≡ accept title text → (judged state.history most edit ≡ accept title text) × (is_journal_full most (journal_use state point) ≡ false)
  accepted_only edit title text is =
      let parts = with_room-accept (is_journal_full most (journal_use state point)) (judged state.history most edit) title text is in
      (parts.1, parts.0)
