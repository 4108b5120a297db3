-- One step of a worker.
use Rattle.std.proofs.Common.{◌≡◌, ℕ, ◌+◌, ◌-◌, ◌≤◌, false, List, [], ◌∷◌, ◌++◌, length, Option, Some, None, inl, inr, refl, sym, ap, ◌∙◌, subst, arith, append_assoc}
use Rattle.std.specs.Prelude.{option_map}
use Rattle.wk_wiki_rules.specs.Jobs.{first_queued}
use Rattle.wk_wiki_rules.specs.States.{State, title_at}
use Rattle.wk_wiki_rules.specs.Events.{Event, Claim, Done, Back, Fan}
use Rattle.wk_wiki_rules.specs.Claims.{ClaimOutcome, claim_outcome}
use Rattle.wk_wiki_rules.specs.Entries.{closes, is_save}
use Rattle.wk_wiki_rules.specs.Starts.{Start}
use Rattle.wk_core.specs.declared.outcomes.Fanned.{Fanned}
use Rattle.wk_core.specs.declared.outcomes.Finished.TheVariants as finished
use Rattle.wk_turn.specs.Told.{Begun, Story}
use Rattle.wk_turn.proofs.Lists.{prefix_get, prefix_length, prefix_trans}
use Rattle.wk_shared.specs.Answers.{BackTold, FinishTold}
use Rattle.wk_shared.specs.Calls.{AddsOwn, HasSeen, IsMadeAt}
use Rattle.wk_readers.specs.Beginnings.{ClaimedTold, HasBegun}
use Rattle.wk_readers.specs.Refreshes.{ComesIn, EndTold, IsBroughtIn, IsRefreshed, RefreshTold}
use Rattle.wk_readers.specs.Worked.{HasWorked}
use Rattle.wk_readers.specs.declared.beginning.Beginning.TheVariants as beginning
use Rattle.wk_readers.specs.declared.outcome.Refreshed.{Refreshed}
use Rattle.wk_readers.specs.declared.outcome.Refreshed.TheVariants as refreshed
use Rattle.wk_readers.proofs.WorkLaws.{worked-none, worked-one, worked-two}

abbrev Pass : Type 0
Pass = Story Start Event

claimed-number : (state : State) (point : ℕ) (ticket : ClaimOutcome) → Some ticket ≡ claim_outcome state point → Some point ≡ Some (ticket.ticket - 1)
claimed-number state point ticket is = by (first_queued state.jobs) is
  where
    told : ℕ → ClaimOutcome
    told page = record { ticket = point + 1; title = title_at state.history page }

    by : (o : Option ℕ) → Some ticket ≡ option_map told o → Some point ≡ Some (ticket.ticket - 1)
    by None none = absurd (let e : Some ticket ≡ None = none in cc)
    by (Some page) some =
        let e : Some ticket ≡ Some (told page) = some in
        let same : ticket ≡ told page = cc in
        let number : ticket.ticket ≡ point + 1 = ap (λ (t : ClaimOutcome). t.ticket) same in
        let place : point ≡ ticket.ticket - 1 = omega (arith, number) in
        ap (λ n. Some n) place

-- ---- one event or none

module _ (shared : Begun Start) (old new : Pass) (seen : HasSeen shared old new (length new.seen)) where
  worked-nothing : (at : ℕ) (event : Option Event) → event ≡ None → AddsOwn old new at event → HasWorked shared old new
  worked-nothing at event none adds = let added : AddsOwn old new at None = subst (AddsOwn old new at) none adds in worked-none shared old new seen added.1

  worked-fan : (at : ℕ) (event : Option Event) → length old.seen ≤ at → event ≡ Some Fan → AddsOwn old new at event → HasWorked shared old new
  worked-fan at event since fan adds = worked-one shared old new seen at Fan since (subst (AddsOwn old new at) fan adds) refl (λ e. absurd cc)

  -- ---- a ticket that came in

  -- how the ticket's claim was closed
  record IsClosed (ticket : ClaimOutcome) (mid : Pass) : Type 0 where
    drafted : Pass
    begins : length mid.seen ≤ length drafted.seen
    own : drafted.own ≡ mid.own
    at : ℕ
    later : length drafted.seen ≤ at
    event : Event
    adds : AddsOwn drafted new at (Some event)
    closing : closes event ≡ Some (ticket.ticket - 1)
    no_save : is_save event ≡ false

  module _ (mid : Pass) (ticket : ClaimOutcome) where
    closed-by : (Last : List _ → Start → State → ℕ → Option Event → Type 0) (c : ComesIn shared mid new Last) (event : Event) → c.last.event ≡ Some event → closes event ≡ Some (ticket.ticket - 1) → is_save event ≡ false
        → IsClosed ticket mid
    closed-by Last c event is closing no_save = record {
      drafted = c.drafted;
      begins = prefix_length mid.seen c.drafted.seen c.read.seen;
      own = c.read.own;
      at = c.last.at;
      later = c.last.later;
      event = event;
      adds = subst (AddsOwn c.drafted new c.last.at) is c.last.adds;
      closing = closing;
      no_save = no_save;
    }

    closed : (answer : Refreshed) → EndTold shared mid new ticket answer → IsClosed ticket mid
    closed (refreshed.Done title) end = closed-by (λ reads. FinishTold ticket.ticket reads finished.Done) end.1 (Done ticket.ticket) end.1.last.call.made refl refl
    closed (refreshed.Back title kind read now) end =
        closed-by (λ reads. FinishTold ticket.ticket reads (finished.Stale title kind read now)) end.0 (Back ticket.ticket) end.0.last.call.made refl refl
    closed refreshed.StoreFault end = closed-by (λ reads. FinishTold ticket.ticket reads finished.StoreFault) end (Back ticket.ticket) end.last.call.made refl refl
    closed refreshed.Memory end = closed-by (λ reads. BackTold ticket.ticket) end (Back ticket.ticket) end.last.call refl refl
    closed (refreshed.Idle claimed) end = absurd end
    closed (refreshed.Fanned fanned) end = absurd end
    closed refreshed.JournalFull end = absurd end

    worked-claim : (claim : IsMadeAt shared.start old mid (ClaimedTold ticket)) → HasSeen shared mid new (length new.seen) → IsClosed ticket mid → HasWorked shared old new
    worked-claim claim behind end =
        let adds : AddsOwn old mid claim.at (Some Claim) = subst (AddsOwn old mid claim.at) claim.call.claim.made claim.adds in
        let long = adds.0 in
        let begins = end.begins in
        let later = end.later in
        worked-two shared old new seen claim.at end.at end.event claim.later (omega (arith, long, begins, later)) (prefix_get mid.seen new.seen claim.at Claim behind.seen adds.1) end.adds.1
        (end.adds.2 ∙ (ap (λ l. l ++ end.at ∷ []) (end.own ∙ adds.2) ∙ append_assoc old.own (claim.at ∷ []) (end.at ∷ [])))
        (end.closing ∙ sym (claimed-number claim.state claim.at ticket claim.call.claim.claimed)) end.no_save

-- ---- the step

module _ (shared : Begun Start) (old mid : Pass) where
  pub idle-step : (claimed : ℕ) → HasBegun shared old mid (beginning.Idle claimed) → IsRefreshed shared old mid (refreshed.Idle claimed)
  idle-step claimed begun = record {
    pass = worked-nothing shared old mid begun.pass begun.call.at begun.call.event begun.call.call.made begun.call.adds;
    told = begun.call;
    fault = λ e. absurd cc;
  }

  pub fanned-step : (fanned : Fanned) → HasBegun shared old mid (beginning.Fanned fanned) → IsRefreshed shared old mid (refreshed.Fanned fanned)
  fanned-step fanned begun = record {
    pass = worked-fan shared old mid begun.pass begun.call.at begun.call.event begun.call.later begun.call.call.made begun.call.adds;
    told = begun.call;
    fault = λ e. absurd cc;
  }

  pub full-step : HasBegun shared old mid beginning.JournalFull → IsRefreshed shared old mid refreshed.JournalFull
  full-step begun = record {
    pass = worked-nothing shared old mid begun.pass begun.call.at begun.call.event begun.call.call.made begun.call.adds;
    told = begun.call;
    fault = λ e. absurd cc;
  }

  pub fault-step : HasBegun shared old mid beginning.StoreFault → IsRefreshed shared old mid refreshed.StoreFault
  fault-step begun = record {
    pass = worked-nothing shared old mid begun.pass begun.call.at begun.call.event begun.call.call.refused begun.call.adds;
    told = inl begun.call;
    fault = λ e. begun.fault refl;
  }

  pub wanting-step : HasBegun shared old mid beginning.Memory → IsRefreshed shared old mid refreshed.Memory
  wanting-step begun = record {
    pass = worked-nothing shared old mid begun.pass begun.call.at begun.call.event begun.call.call begun.call.adds;
    told = inl begun.call;
    fault = λ e. absurd cc;
  }

  module _ (ticket : ClaimOutcome) (begun : HasBegun shared old mid (beginning.Claimed ticket)) (new : Pass) where
    told-of : (answer : Refreshed) → EndTold shared mid new ticket answer → RefreshTold shared old new answer
    told-of (refreshed.Done title) end = record { claimed = mid; ticket = ticket; claim = begun.call; end = end }
    told-of (refreshed.Back title kind read now) end = record { claimed = mid; ticket = ticket; claim = begun.call; end = end }
    told-of refreshed.StoreFault end = inr (record { claimed = mid; ticket = ticket; claim = begun.call; end = end })
    told-of refreshed.Memory end = inr (record { claimed = mid; ticket = ticket; claim = begun.call; end = end })
    told-of (refreshed.Idle claimed) end = absurd end
    told-of (refreshed.Fanned fanned) end = absurd end
    told-of refreshed.JournalFull end = absurd end

    pub claimed-step : (answer : Refreshed) → IsBroughtIn shared mid new ticket answer → IsRefreshed shared old new answer
    claimed-step answer end =
        let both : HasSeen shared old new (length new.seen) = record {
          turn = end.pass.turn;
          free = end.pass.free;
          tells = refl;
          seen = prefix_trans old.seen mid.seen new.seen begun.pass.seen end.pass.seen;
          state = end.pass.state;
          run = end.pass.run;
        } in record {
          pass = worked-claim shared old new both mid ticket begun.call end.pass (closed shared old new both mid ticket answer end.told);
          told = told-of answer end.told;
          fault = end.fault;
        }
