-- The step behind a reply, by what `refresh_one` tells of it.
use Rattle.std.proofs.Common.{◌≡◌, ℕ, ◌+◌, ◌≤◌, true, false, List, [], ◌∷◌, ◌++◌, length, take, Option, Some, None, refl, sym, ap, ◌∙◌, subst, arith, append-nil, append_assoc, inl, inr}
use Rattle.std.specs.Prelude.{Ok, Err, ◌&&◌, is_none, option_map}
use Rattle.std.proofs.lemmas.List.{take-append-le}
use mathlib.Core.List.{IsPrefix}
use Rattle.wk_text_rules.specs.Titles.{PageTitle}
use Rattle.wk_view_rules.specs.Worlds.{Read}
use Rattle.wk_wiki_rules.specs.Jobs.{first_fan, first_queued}
use Rattle.wk_wiki_rules.specs.States.{State, title_at, world_of}
use Rattle.wk_wiki_rules.specs.Events.{Event, Back as BackEvent, Claim, Done as DoneEvent, Fan}
use Rattle.wk_wiki_rules.specs.Lives.{replay, state_at}
use Rattle.wk_wiki_rules.specs.Claims.{ClaimOutcome, claim_outcome}
use Rattle.wk_wiki_rules.specs.Staleness.{StaleRead}
use Rattle.wk_wiki_rules.specs.Starts.{Start}
use Rattle.wk_http.specs.declared.report.Refresh.{Refresh}
use Rattle.wk_http.specs.declared.report.Refresh.TheVariants as kind
use Rattle.wk_core.specs.declared.outcomes.FanRefusal.TheVariants as fan
use Rattle.wk_core.specs.declared.outcomes.Finished.TheVariants as finished
use Rattle.wk_turn.specs.Told.{Begun}
use Rattle.wk_turn.proofs.Lists.{prefix_get, prefix_length, prefix_trans}
use Rattle.wk_shared.specs.Answers.{BackTold, FanTold, FinishTold}
use Rattle.wk_shared.specs.Calls.{AddsOwn, IsFree, IsMadeAt, MayFail, seen_by}
use Rattle.wk_read_laws.specs.Points.{IsStaleSince}
use Rattle.wk_readers.specs.Beginnings.{ClaimedTold, FullTold, IdleTold, NothingTold}
use Rattle.wk_readers.specs.Readers.{IsIdleAt, ReaderSeen}
use Rattle.wk_readers.specs.Refreshes.{ComesIn, EndTold, IsRefreshed, RefreshTold}
use Rattle.wk_readers.specs.Worked.{HasWorked}
use Rattle.wk_readers.specs.declared.outcome.Refreshed.{Refreshed}
use Rattle.wk_readers.specs.declared.outcome.Refreshed.TheVariants as refreshed
use Rattle.wk_session_rules.specs.Points.{GoesOn, IsStateAt}
use Rattle.wk_session_rules.specs.Steps.{CameIn, HasChanged, IsFull, IsStep, back, done, fan_failed, fanned, full, idle, no_memory, no_memory_behind_claim, refresh_failed}
use Rattle.wk_session.specs.Serving.{IsStepTold}
use Rattle.wk_session.specs.Steps.{kind_of}
use Rattle.wk_session.proofs.Passing.{Pass, goes-nowhere}

claimed-number : (state : State) (point : ℕ) (ticket : ClaimOutcome) → Some ticket ≡ claim_outcome state point → ticket.ticket ≡ point + 1
claimed-number state point ticket is = by (first_queued state.jobs) is
  where
    by : (o : Option ℕ) → Some ticket ≡ option_map (λ page. let told : ClaimOutcome = record { ticket = point + 1; title = title_at state.history page } in told) o → ticket.ticket ≡ point + 1
    by None none = absurd (let e : Some ticket ≡ None = none in cc)
    by (Some page) some =
        let e : Some ticket ≡ Some (record { ticket = point + 1; title = title_at state.history page }) = some in
        let same : ticket ≡ record { ticket = point + 1; title = title_at state.history page } = cc in
        ap (λ (t : ClaimOutcome). t.ticket) same

-- the state at a point that a pass has seen is the one there of a longer journal
pub state-kept : (start : Start) (journal longer : List Event) (point : ℕ) (state : State) → IsPrefix journal longer → point ≤ length journal → state_at start.state journal point ≡ Some state → state_at start.state longer point ≡ Some state
state-kept start journal longer point state begins within stands =
    ap (replay start.state) (ap (take point) (sym begins.1) ∙ take-append-le point journal begins.0 within) ∙ stands

module _ (shared : Begun Start) (old new : Pass) (worked : HasWorked shared old new) where
  step-free : IsFree shared new
  step-free = record { turn = worked.turn; free = worked.free }

  goes-with : (made : List ℕ) → new.own ≡ old.own ++ made → GoesOn (seen_by shared.start old) (seen_by shared.start new) made
  goes-with made own = record { start = refl; seen = worked.seen; own = own }

  adds : (Call : Start → State → ℕ → Option Event → Type 0) (m : IsMadeAt shared.start old new Call) (event : Option Event) → m.event ≡ event → AddsOwn old new m.at event
  adds Call m event is = subst (AddsOwn old new m.at) is m.adds

  module _ (fails : Type 0) where
    step-of : (refresh : Refresh) (made : List ℕ) → new.own ≡ old.own ++ made → IsStep fails (seen_by shared.start old) (seen_by shared.start new) refresh made → IsStepTold shared fails old new refresh
    step-of refresh made own is = record { free = step-free; worked = made; goes = goes-with made own; stepped = is }

    -- no event was made
    module _ (Call : Start → State → ℕ → Option Event → Type 0) (m : IsMadeAt shared.start old new Call) (none : m.event ≡ None) where
      still-own : new.own ≡ old.own ++ []
      still-own = (adds Call m None none).1 ∙ sym (append-nil old.own)

      state-now : IsStateAt (seen_by shared.start old) (seen_by shared.start new) (length new.seen) m.state
      state-now =
          let there : length new.seen ≡ m.at = (adds Call m None none).0 in
          record {
            later = (let later = m.later in omega (arith, later, there));
            seen = omega arith;
            stands = ap (state_at shared.start.state new.seen) there ∙ m.stands;
          }

    idle-told : (claimed : ℕ) → IsMadeAt shared.start old new (IdleTold claimed) → IsStepTold shared fails old new kind.Idle
    idle-told claimed m =
        step-of kind.Idle [] (still-own (IdleTold claimed) m m.call.made) (idle (state-now (IdleTold claimed) m m.call.made) m.call.none_queued m.call.no_fan)

    full-told : IsMadeAt shared.start old new FullTold → IsStepTold shared fails old new kind.JournalFull
    full-told m =
        let there : length new.seen ≡ m.at = (adds FullTold m None m.call.made).0 in
        step-of kind.JournalFull [] (still-own FullTold m m.call.made)
        (full (state-now FullTold m m.call.made)
        (subst (IsFull (seen_by shared.start new) m.state) (sym there) m.call.full))

    nothing-told : (Call : Start → State → ℕ → Option Event → Type 0) (m : IsMadeAt shared.start old new Call) → m.event ≡ None → IsStepTold shared fails old new kind.Memory
    nothing-told Call m none = step-of kind.Memory [] (still-own Call m none) no_memory

    fan-failed : (m : IsMadeAt shared.start old new (FanTold (Err fan.StoreFault))) → fails → IsStepTold shared fails old new kind.StoreFault
    fan-failed m may = step-of kind.StoreFault [] (still-own (FanTold (Err fan.StoreFault)) m m.call.refused) (fan_failed may)

    -- one fan
    fanned-told : (told : _) → IsMadeAt shared.start old new (FanTold (Ok (Some told))) → IsStepTold shared fails old new kind.Fanned
    fanned-told told m =
        let one = adds (FanTold (Ok (Some told))) m (Some Fan) m.call.made in
        step-of kind.Fanned (m.at ∷ []) one.2 (fanned (record { later = m.later; last = one.0; entry = one.1 }))

    -- ---- a claim, and its ticket that came in

    module _ (claimed : Pass) (ticket : ClaimOutcome) (claim : IsMadeAt shared.start old claimed (ClaimedTold ticket)) where
      claim-adds : AddsOwn old claimed claim.at (Some Claim)
      claim-adds = subst (AddsOwn old claimed claim.at) claim.call.claim.made claim.adds

      ticket-is : ticket.ticket ≡ claim.at + 1
      ticket-is = claimed-number claim.state claim.at ticket claim.call.claim.claimed

      module _ (Last : List Read → Start → State → ℕ → Option Event → Type 0) (c : ComesIn shared claimed new Last) (event : Event) (is : c.last.event ≡ Some event) where
        last-adds : AddsOwn c.drafted new c.last.at (Some event)
        last-adds = subst (AddsOwn c.drafted new c.last.at) is c.last.adds

        all-own : new.own ≡ old.own ++ claim.at ∷ c.last.at ∷ []
        all-own =
            last-adds.2
            ∙ (ap (λ (l : List ℕ). l ++ c.last.at ∷ []) (c.read.own ∙ claim-adds.2) ∙ append_assoc old.own (claim.at ∷ []) (c.last.at ∷ []))

        claim-later : length claimed.seen ≤ c.last.at
        claim-later = let one = prefix_length claimed.seen c.drafted.seen c.read.seen in let two = c.last.later in omega (arith, one, two)

        came : CameIn (seen_by shared.start old) (seen_by shared.start new) claim.at c.last.at event
        came = record {
          later = claim.later;
          claimed = prefix_get claimed.seen new.seen claim.at Claim (prefix_trans claimed.seen c.drafted.seen new.seen c.read.seen c.later) claim-adds.1;
          in_order = (let one = claim-later in let two = claim-adds.0 in omega (arith, one, two));
          last = record {
            later = (let one = claim-later in let two = claim-adds.0 in let three = claim.later in omega (arith, one, two, three));
            last = last-adds.0;
            entry = last-adds.1;
          };
        }

        -- a mark that was read and isn't current
        changed : (stale : StaleRead) → IsStaleSince shared.start c.drafted.seen (length claimed.seen) (world_of c.last.state) stale → HasChanged (seen_by shared.start new) (claim.at + 1) c.last.at
        changed stale s = record {
          title = stale.title;
          kind = stale.kind;
          point = s.point;
          since = (let one = s.since in let two = claim-adds.0 in omega (arith, one, two));
          before = (let one = s.within in let two = c.last.later in omega (arith, one, two));
          was = s.state;
          stood = state-kept shared.start c.drafted.seen new.seen s.point s.state c.later s.within s.stands;
          is = c.last.state;
          stands = c.last.stands;
          differs = λ e. s.differs (s.was ∙ (e ∙ sym s.is));
        }

      done-told : (title : PageTitle) → EndTold shared claimed new ticket (refreshed.Done title) → IsStepTold shared fails old new kind.Done
      done-told title (same, c) =
          let is : c.last.event ≡ Some (DoneEvent (claim.at + 1)) = c.last.call.made ∙ ap (λ n. Some (DoneEvent n)) ticket-is in
          step-of kind.Done (claim.at ∷ c.last.at ∷ []) (all-own (λ reads. FinishTold ticket.ticket reads finished.Done) c (DoneEvent (claim.at + 1)) is)
          (done (came (λ reads. FinishTold ticket.ticket reads finished.Done) c (DoneEvent (claim.at + 1)) is))

      module _ (Last : List Read → Start → State → ℕ → Option Event → Type 0) (c : ComesIn shared claimed new Last) (made : c.last.event ≡ Some (BackEvent ticket.ticket)) where
        given : c.last.event ≡ Some (BackEvent (claim.at + 1))
        given = made ∙ ap (λ n. Some (BackEvent n)) ticket-is

        given-own : new.own ≡ old.own ++ claim.at ∷ c.last.at ∷ []
        given-own = all-own Last c (BackEvent (claim.at + 1)) given

        given-back : CameIn (seen_by shared.start old) (seen_by shared.start new) claim.at c.last.at (BackEvent (claim.at + 1))
        given-back = came Last c (BackEvent (claim.at + 1)) given

      back-told : (title : PageTitle) (what : _) (read now : ℕ) → EndTold shared claimed new ticket (refreshed.Back title what read now) → IsStepTold shared fails old new kind.Back
      back-told title what read now (c, stale) =
          step-of kind.Back (claim.at ∷ c.last.at ∷ []) (given-own (λ reads. FinishTold ticket.ticket reads (finished.Stale title what read now)) c c.last.call.made)
          (back (given-back (λ reads. FinishTold ticket.ticket reads (finished.Stale title what read now)) c c.last.call.made)
          (changed (λ reads. FinishTold ticket.ticket reads (finished.Stale title what read now)) c (BackEvent (claim.at + 1))
          (given (λ reads. FinishTold ticket.ticket reads (finished.Stale title what read now)) c c.last.call.made)
          (record { title = title; kind = what; read = read; now = now }) stale))

      failed-told : fails → EndTold shared claimed new ticket refreshed.StoreFault → IsStepTold shared fails old new kind.StoreFault
      failed-told may c =
          step-of kind.StoreFault (claim.at ∷ c.last.at ∷ []) (given-own (λ reads. FinishTold ticket.ticket reads finished.StoreFault) c c.last.call.made)
          (refresh_failed may (given-back (λ reads. FinishTold ticket.ticket reads finished.StoreFault) c c.last.call.made))

      wanting-told : EndTold shared claimed new ticket refreshed.Memory → IsStepTold shared fails old new kind.Memory
      wanting-told c =
          step-of kind.Memory (claim.at ∷ c.last.at ∷ []) (given-own (λ reads. BackTold ticket.ticket) c c.last.call)
          (no_memory_behind_claim (given-back (λ reads. BackTold ticket.ticket) c c.last.call))

    pub told-as : (answer : Refreshed) → RefreshTold shared old new answer → (answer ≡ refreshed.StoreFault → fails) → IsStepTold shared fails old new (kind_of answer)
    told-as (refreshed.Idle claimed) told may = idle-told claimed told
    told-as (refreshed.Fanned numbers) told may = fanned-told numbers told
    told-as (refreshed.Done title) told may = done-told told.claimed told.ticket told.claim title told.end
    told-as (refreshed.Back title what read now) told may = back-told told.claimed told.ticket told.claim title what read now told.end
    told-as refreshed.JournalFull told may = full-told told
    told-as refreshed.StoreFault (inl m) may = fan-failed m (may refl)
    told-as refreshed.StoreFault (inr told) may = failed-told told.claimed told.ticket told.claim (may refl) told.end
    told-as refreshed.Memory (inl m) may = nothing-told NothingTold m m.call
    told-as refreshed.Memory (inr told) may = wanting-told told.claimed told.ticket told.claim told.end

pub refreshed-step : (shared : Begun Start) (old new : Pass) (answer : Refreshed) → IsRefreshed shared old new answer → IsStepTold shared (MayFail shared.start) old new (kind_of answer)
refreshed-step shared old new answer x = told-as shared old new x.pass (MayFail shared.start) answer x.told x.fault

-- ---- the step where a look has told that no job is to be done

both-none : {A B : Type 0} (a : Option A) (b : Option B) → (is_none a && is_none b) ≡ true → (a ≡ None) × (b ≡ None)
both-none None None e = (refl, refl)
both-none None (Some b) e = absurd (let x : false ≡ true = e in cc)
both-none (Some a) b e = absurd (let x : false ≡ true = e in cc)

pub idle-step : (shared : Begun Start) (old new : ReaderSeen) → new ≡ old → IsFree shared old.pass → ((start : Start) → old.pass.start ≡ Some start → IsIdleAt start old.pass) → IsStepTold shared (MayFail shared.start) old.pass new.pass kind.Idle
idle-step shared old new same is told =
    let at = told shared.start is.turn.1 in
    let seen = seen_by shared.start old.pass in
    let none = both-none (first_queued at.state.jobs) (first_fan at.state.jobs) at.idle in
    subst (λ (r : ReaderSeen). IsStepTold shared (MayFail shared.start) old.pass r.pass kind.Idle) (sym same) (record {
      free = is;
      worked = [];
      goes = goes-nowhere seen;
      stepped = idle (record { later = omega arith; seen = omega arith; stands = at.stands }) none.0 none.1;
    })
