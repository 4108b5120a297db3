-- Tickets that a pass holds, and drafts that are fit for them, over a longer journal.
use Rattle.std.proofs.Common.{◌≡◌, ◌≢◌, ℕ, zero, suc, ◌+◌, ◌-◌, List, [], ◌∷◌, ◌++◌, length, Some, refl, sym, ap, ◌∙◌, subst, arith, length-append}
use Rattle.std.specs.Prelude.{option_and_then, slice_get}
use Rattle.std.proofs.lemmas.Option.{option_and_then_some}
use Rattle.std.proofs.Math.Seq.{take-length}
use mathlib.Core.List.{IsPrefix}
use Rattle.wk_wiki_rules.specs.Jobs.{IsOneAPage}
use Rattle.wk_wiki_rules.specs.Steps.{fan_pages}
use Rattle.wk_wiki_rules.specs.States.{State}
use Rattle.wk_wiki_rules.specs.Events.{Event, step_by}
use Rattle.wk_wiki_rules.specs.Lives.{replay, replay_from}
use Rattle.wk_wiki_laws.specs.WellFormed.{IsWellFormed}
use Rattle.wk_wiki_laws.proofs.Formed.{IsWellFormed-step}
use Rattle.wk_wiki_laws.proofs.Refreshed.{held-within}
use Rattle.wk_wiki_rules.specs.Claims.{ClaimOutcome}
use Rattle.wk_wiki_rules.specs.Entries.{closes}
use Rattle.wk_wiki_rules.specs.Room.{tickets_out}
use Rattle.wk_wiki_rules.specs.Starts.{Start}
use Rattle.wk_wiki_laws.proofs.Parts.{replay-append, replay-push}
use Rattle.wk_wiki_laws.proofs.TicketSteps.{out-is-open, ticket-stays}
use Rattle.wk_wiki_laws.proofs.Tickets.{within-claim}
use Rattle.wk_life_laws.specs.Runs.{IsRun}
use Rattle.wk_life_laws.proofs.RunFacts.{run_honest, run_replayed}
use Rattle.wk_expand.specs.Drafts.{DraftShown}
use Rattle.wk_core.specs.Tickets.{IsDraftFor, IsOut}
use Rattle.wk_core.proofs.TicketFacts.{title-stays}
use Rattle.wk_turn.specs.Journal.{IsOpen}
use Rattle.wk_turn.specs.Told.{Story}
use Rattle.wk_shared.specs.Calls.{HoldsDraft, HoldsTicket}
use Rattle.wk_shared.proofs.Journals.{get-behind, state-later}

-- ---- over events

-- a journal keeps a state well formed
formed-replayed : (state last : State) (journal : ℕ) (events : List Event) → replay_from fan_pages state journal events ≡ Some last → IsWellFormed state → IsWellFormed last
formed-replayed state last journal [] done formed = let e : Some state ≡ Some last = done in let same : state ≡ last = cc in subst IsWellFormed same formed
formed-replayed state last journal (event ∷ events) done formed =
    option_and_then_some (λ next. replay_from fan_pages next (journal + 1) events) (step_by fan_pages state journal event) last done
    (λ next stepped later. formed-replayed next last (journal + 1) events later (IsWellFormed-step fan_pages state next journal event stepped formed))

-- an event that doesn't close the place of the claim leaves the ticket out, with its title
pub out-step : (start state next : State) (before : List Event) (event : Event) (ticket : ClaimOutcome) → IsOneAPage start.jobs → tickets_out start ≡ 0 → replay start before ≡ Some state
    → step_by fan_pages state (length before) event ≡ Some next → IsWellFormed state → closes event ≢ Some (ticket.ticket - 1) → IsOut state ticket → IsOut next ticket
out-step start state next before event ticket one none were stepped formed apart out =
    let within = held-within state ticket.ticket out.page formed out.held in
    let some = within.0 in
    let few = within.1 in
    let as_many = formed.stored in
    record {
      page = out.page;
      held = ticket-stays fan_pages start state next before event ticket.ticket out.page one none were (replay-push fan_pages start state next before event were stepped) out.held (λ e. apart (ap closes e)) (λ e. apart (ap closes e));
      titled = title-stays state next (length before) event out.page stepped some (omega (arith, few, as_many)) ∙ out.titled;
    }

out-over : (start state last : State) (before events : List Event) (ticket : ClaimOutcome) → IsOneAPage start.jobs → tickets_out start ≡ 0 → replay start before ≡ Some state
    → replay_from fan_pages state (length before) events ≡ Some last → IsWellFormed state → ((k : ℕ) (e : Event) → slice_get events k ≡ Some e → closes e ≢ Some (ticket.ticket - 1)) → IsOut state ticket → IsOut last ticket
out-over start state last before [] ticket one none were done formed apart out = let e : Some state ≡ Some last = done in let same : state ≡ last = cc in subst (λ (s : State). IsOut s ticket) same out
out-over start state last before (event ∷ events) ticket one none were done formed apart out =
    option_and_then_some (λ next. replay_from fan_pages next (length before + 1) events) (step_by fan_pages state (length before) event) last done
    (λ next stepped later.
    let longer = length-append before (event ∷ []) in
    let there : length before + 1 ≡ length (before ++ event ∷ []) = omega (arith, longer) in
    out-over start next last (before ++ event ∷ []) events ticket one none (replay-push fan_pages start state next before event were stepped)
    (subst (λ n. replay_from fan_pages next n events ≡ Some last) there later) (IsWellFormed-step fan_pages state next (length before) event stepped formed)
    (λ k e at. apart (suc k) e at) (out-step start state next before event ticket one none were stepped formed (apart zero event refl) out))

-- ---- of a pass

module _ (start : Start) (pass : Story Start Event) (journal : List Event) (last : State) (ticket : ClaimOutcome) (run : IsRun start journal last) (begins : IsPrefix pass.seen journal) where
  -- a ticket that a pass holds is out in the state behind a longer journal in which its claim is open
  pub out-later : HoldsTicket start pass ticket → IsOpen closes journal pass.own (ticket.ticket - 1) → IsOut last ticket
  out-later holds opened =
      let before : replay start.state pass.seen ≡ Some holds.state = ap (replay start.state) (sym (take-length pass.seen)) ∙ holds.seen in
      let whole : replay start.state (pass.seen ++ begins.0) ≡ Some last = ap (replay start.state) begins.1 ∙ run_replayed start journal last run in
      let later : option_and_then (λ (middle : State). replay_from fan_pages middle (0 + length pass.seen) begins.0) (Some holds.state) ≡ Some last =
      ap (option_and_then (λ (middle : State). replay_from fan_pages middle (0 + length pass.seen) begins.0)) (sym before) ∙ (sym (replay-append fan_pages start.state 0 pass.seen begins.0) ∙ whole) in
      let number : 0 + length pass.seen ≡ length pass.seen = omega arith in
      let is_open = out-is-open fan_pages start.state holds.state pass.seen ticket.ticket holds.out.page run.kept.one_page run.none_out before holds.out.held in
      let within = within-claim pass.seen ticket.ticket is_open in
      let positive = is_open.positive in
      out-over start.state holds.state last pass.seen begins.0 ticket run.kept.one_page run.none_out before
      (subst (λ n. replay_from fan_pages holds.state n begins.0 ≡ Some last) number later)
      (formed-replayed start.state holds.state 0 pass.seen before run.kept.formed)
      (λ k e at closing. opened.1 (length pass.seen + k) (e, ap (λ l. slice_get l (length pass.seen + k)) (sym begins.1) ∙ (get-behind pass.seen begins.0 k ∙ at), closing, omega (arith, within, positive)))
      holds.out

  -- a draft that was fit is fit still
  pub fit-later : (draft : DraftShown) → HoldsDraft start pass ticket draft → IsDraftFor last ticket draft
  fit-later draft holds = record {
    page = holds.fit.page;
    own_text = holds.fit.own_text;
    honest = run_honest start journal last run holds.state (length pass.seen) draft.reads (state-later start pass journal holds.state begins holds.seen) holds.fit.honest;
  }
