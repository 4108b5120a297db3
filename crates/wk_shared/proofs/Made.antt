-- What a call under the turn is, by what the wiki's call made of the wiki that was taken.
use Rattle.std.proofs.Common.{◌≡◌, ℕ, ◌+◌, ◌-◌, List, [], ◌∷◌, ◌++◌, length, Option, Some, None, refl, sym, ap, ◌∙◌, subst, arith, length-append}
use Rattle.std.specs.Prelude.{option_map, option_to_list, slice_get, Result, Ok, Err, IfOk, IfSome}
use Rattle.std.proofs.lemmas.List.{append-nil}
use mathlib.Core.List.{IsPrefix}
use Rattle.wk_table_rules.specs.Rows.{StoreTables}
use Rattle.wk_page_rules.specs.History.{text_of_revision}
use Rattle.wk_view_rules.specs.Worlds.{IsHonest, Read}
use Rattle.wk_wiki_rules.specs.Jobs.{first_queued}
use Rattle.wk_wiki_rules.specs.States.{State, title_at}
use Rattle.wk_wiki_rules.specs.Events.{Event, Claim}
use Rattle.wk_wiki_rules.specs.Lives.{replay}
use Rattle.wk_wiki_rules.specs.Claims.{ClaimOutcome, claim_outcome}
use Rattle.wk_wiki_rules.specs.Entries.{closes}
use Rattle.wk_wiki_rules.specs.Starts.{Start}
use Rattle.wk_life_laws.specs.Runs.{IsRun}
use Rattle.wk_life_laws.proofs.RunFacts.{run_honest, run_kept, run_present, run_replayed}
use Rattle.wk_expand.specs.Drafts.{DraftShown}
use Rattle.wk_core.specs.Seen.{WikiSeen}
use Rattle.wk_core.specs.Steps.{HasMade, HasMadeAtMost}
use Rattle.wk_core.specs.Tickets.{IsDraftFor, IsOut}
use Rattle.wk_core.specs.declared.outcomes.ClaimRefusal.{ClaimRefusal}
use Rattle.wk_turn.specs.Journal.{IsOpen, added}
use Rattle.wk_turn.specs.Told.{Begun, IsOf, Story}
use Rattle.wk_turn.proofs.Closing.{added_none, added_one, one_open, others_open}
use Rattle.wk_turn.proofs.Lists.{get_last, prefix_length, prefix_trans}
use Rattle.wk_shared.specs.Calls.{AddsOwn, HasSeen, HoldsDraft, HoldsTicket, IsMadeAt, LeavesOut, state_by}
use Rattle.wk_shared.specs.Desk.{IsGiven, IsTaken, MakesAtMostOne}
use Rattle.wk_shared.proofs.Journals.{journal-made, start-made, state-within}
use Rattle.wk_shared.proofs.Outcomes.{Outcome}
use Rattle.wk_shared.proofs.Tickets.{fit-later, out-later, out-step}

claimed-number : (state : State) (point : ℕ) (ticket : ClaimOutcome) → Some ticket ≡ claim_outcome state point → point ≡ ticket.ticket - 1
claimed-number state point ticket is = by (first_queued state.jobs) is
  where
    by : (o : Option ℕ) → Some ticket ≡ option_map (λ page. let told : ClaimOutcome = record { ticket = point + 1; title = title_at state.history page } in told) o → point ≡ ticket.ticket - 1
    by None none = absurd (let e : Some ticket ≡ None = none in cc)
    by (Some page) some =
        let e : Some ticket ≡ Some (record { ticket = point + 1; title = title_at state.history page }) = some in
        let same : ticket ≡ record { ticket = point + 1; title = title_at state.history page } = cc in
        let number : ticket.ticket ≡ point + 1 = ap (λ (t : ClaimOutcome). t.ticket) same in
        omega (arith, number)

module _ {K : Type 0} (shared : Begun Start) (old mid : Story Start Event) (wiki : WikiSeen K) (taken : IsTaken shared old mid wiki) where
  run-taken : IsRun shared.start wiki.journal wiki.state
  run-taken = subst (λ (s : Start). IsRun s wiki.journal wiki.state) taken.start taken.run

  -- a ticket that the pass held is out in the wiki that it has taken
  pub out-taken : (ticket : ClaimOutcome) → HoldsTicket shared.start old ticket → IsOut wiki.state ticket
  out-taken ticket holds = out-later shared.start old wiki.journal wiki.state ticket run-taken taken.seen holds (taken.still_open (ticket.ticket - 1) holds.claim)

  -- and a draft that was fit for it is fit there
  pub fit-taken : (ticket : ClaimOutcome) (draft : DraftShown) → HoldsDraft shared.start old ticket draft → IsDraftFor wiki.state ticket draft
  fit-taken ticket draft holds = fit-later shared.start old wiki.journal wiki.state ticket run-taken taken.seen draft holds

module _ {K : Type 0} (told : K → Option StoreTables) (shared : Begun Start) (old mid : Story Start Event) (wiki after : WikiSeen K) (taken : IsTaken shared old mid wiki) where
  -- what is asked where the wiki is given back
  pub makes : (Call : Start → State → ℕ → Option Event → Type 0) (before : WikiSeen K) → before ≡ wiki → Outcome told old.own wiki after Call → MakesAtMostOne mid.own before after
  makes Call before same out =
      let made : MakesAtMostOne old.own wiki after = record {
        event = out.event;
        start = start-made told wiki after out.event out.made;
        journal = journal-made told wiki after out.event out.made;
        closing = out.closing;
      } in
      let mine : mid.own ≡ old.own = ap (λ (p : Story Start Event). p.own) taken.pass in
      subst (λ (z : List ℕ × WikiSeen K). MakesAtMostOne z.0 z.1 after) (λ i. (sym mine i, sym same i)) made

  module _ (new : Story Start Event) (before : WikiSeen K) (point : ℕ) (of : IsOf shared old) (same : before ≡ wiki) (back : IsGiven mid new before after point) where
    given : IsGiven mid new wiki after point
    given = subst (λ (w : WikiSeen K). IsGiven mid new w after point) same back

    seen-is : new.seen ≡ after.journal
    seen-is = ap (λ (p : Story Start Event). p.seen) given.pass

    own-is : new.own ≡ old.own ++ added wiki.journal after.journal
    own-is = ap (λ (p : Story Start Event). p.own) given.pass ∙ ap (λ (p : Story Start Event). p.own ++ added wiki.journal after.journal) taken.pass

    module _ (Call : Start → State → ℕ → Option Event → Type 0) (out : Outcome told old.own wiki after Call) where
      journal-is : new.seen ≡ wiki.journal ++ option_to_list out.event
      journal-is = seen-is ∙ journal-made told wiki after out.event out.made

      run-is : IsRun shared.start new.seen after.state
      run-is =
          let start : after.start ≡ shared.start = start-made told wiki after out.event out.made ∙ taken.start in
          subst (λ (z : Start × List Event). IsRun z.0 z.1 after.state) (λ i. (start i, sym seen-is i)) given.run

      pub has-seen : HasSeen shared old new point
      has-seen = record {
        turn = (ap (λ (p : Story Start Event). p.turn) given.pass ∙ (ap (λ (p : Story Start Event). p.turn) taken.pass ∙ of.0), ap (λ (p : Story Start Event). p.start) given.pass ∙ (ap (λ (p : Story Start Event). p.start) taken.pass ∙ of.1));
        free = ap (λ (p : Story Start Event). p.held) given.pass;
        tells = given.tells ∙ ap length (sym seen-is);
        seen = subst (IsPrefix old.seen) (sym journal-is) (prefix_trans old.seen wiki.journal (wiki.journal ++ option_to_list out.event) taken.seen (option_to_list out.event, refl));
        state = after.state;
        run = run-is;
      }

      adds-own : (event : Option Event) → HasMadeAtMost told wiki after event → AddsOwn old new (length wiki.journal) event
      adds-own None made =
          let journal : after.journal ≡ wiki.journal = ap (λ (w : WikiSeen K). w.journal) made.wiki in
          (ap length (seen-is ∙ journal), own-is ∙ (ap (λ l. old.own ++ added wiki.journal l) journal ∙ (ap (λ l. old.own ++ l) (added_none wiki.journal) ∙ append-nil old.own)))
      adds-own (Some event) made = (
        ap length (seen-is ∙ made.journal) ∙ length-append wiki.journal (event ∷ []),
        ap (λ l. slice_get l (length wiki.journal)) (seen-is ∙ made.journal) ∙ get_last wiki.journal event,
        own-is ∙ (ap (λ l. old.own ++ added wiki.journal l) made.journal ∙ ap (λ l. old.own ++ l) (added_one wiki.journal event)),
      )

      -- ---- the tickets that the pass held

      module _ (ticket : ClaimOutcome) (holds : HoldsTicket shared.start old ticket) where
        opened : IsOpen closes wiki.journal old.own (ticket.ticket - 1)
        opened = taken.still_open (ticket.ticket - 1) holds.claim

        out-then : IsOut wiki.state ticket
        out-then = out-taken shared old mid wiki taken ticket holds

        out-now : (event : Option Event) → HasMadeAtMost told wiki after event → LeavesOut ticket event → IsOut after.state ticket
        out-now None made leaves = subst (λ (s : State). IsOut s ticket) (sym (ap (λ (w : WikiSeen K). w.state) made.wiki)) out-then
        out-now (Some event) made leaves =
            let run = taken.run in
            out-step wiki.start.state wiki.state after.state wiki.journal event ticket run.kept.one_page run.none_out (run_replayed wiki.start wiki.journal wiki.state run) made.stepped
            (run_kept wiki.start wiki.journal wiki.state run).formed leaves out-then

        open-now : (event : Option Event) → HasMadeAtMost told wiki after event → LeavesOut ticket event → IsOpen closes new.seen new.own (ticket.ticket - 1)
        open-now None made leaves =
            let journal : after.journal ≡ wiki.journal = ap (λ (w : WikiSeen K). w.journal) made.wiki in
            let added = adds-own None made in
            let seen : new.seen ≡ wiki.journal = seen-is ∙ journal in
            subst (λ (z : List Event × List ℕ). IsOpen closes z.0 z.1 (ticket.ticket - 1)) (λ i. (sym seen i, sym added.1 i)) opened
        open-now (Some event) made leaves =
            let added = adds-own (Some event) made in
            let seen : new.seen ≡ wiki.journal ++ event ∷ [] = seen-is ∙ made.journal in
            subst (λ (z : List Event × List ℕ). IsOpen closes z.0 z.1 (ticket.ticket - 1)) (λ i. (sym seen i, sym added.2 i))
            (others_open closes wiki.journal event old.own (ticket.ticket - 1) leaves opened)

        holds-still : LeavesOut ticket out.event → HoldsTicket shared.start new ticket
        holds-still leaves = record {
          claim = open-now out.event out.made leaves;
          state = after.state;
          seen = run_present shared.start new.seen after.state run-is;
          out = out-now out.event out.made leaves;
        }

      pub is-made : IsMadeAt shared.start old new Call
      is-made = record {
        at = length wiki.journal;
        later = prefix_length old.seen wiki.journal taken.seen;
        state = wiki.state;
        stands = state-within shared.start new wiki.journal (option_to_list out.event) wiki.state journal-is
            (ap (λ (s : Start). replay s.state wiki.journal) (sym taken.start) ∙ run_replayed wiki.start wiki.journal wiki.state taken.run);
        event = out.event;
        adds = adds-own out.event out.made;
        call = subst (λ (s : Start). Call s wiki.state (length wiki.journal) out.event) taken.start out.call;
        tickets = holds-still;
      }

      -- the ticket of a claim is held from then on
      pub holds-claimed : (ticket : ClaimOutcome) → Some ticket ≡ claim_outcome wiki.state (length wiki.journal) → HasMade wiki after Claim → IsOut after.state ticket → HoldsTicket shared.start new ticket
      holds-claimed ticket is made out_now =
          let added = adds-own (Some Claim) made in
          let seen : new.seen ≡ wiki.journal ++ Claim ∷ [] = seen-is ∙ made.journal in
          let number : length wiki.journal ≡ ticket.ticket - 1 = claimed-number wiki.state (length wiki.journal) ticket is in
          record {
            claim = subst (λ (z : List Event × List ℕ × ℕ). IsOpen closes z.0 z.1 z.2) (λ i. (sym seen i, sym added.2 i, number i)) (one_open closes wiki.journal Claim old.own);
            state = after.state;
            seen = run_present shared.start new.seen after.state run-is;
            out = out_now;
          }

      pub claimed-held : (answer : Result (Option ClaimOutcome) ClaimRefusal) → IfOk answer (λ ticket. ticket ≡ claim_outcome wiki.state (length wiki.journal))
          → IfOk answer (λ ticket. IfSome ticket (λ _. HasMade wiki after Claim)) → IfOk answer (λ ticket. IfSome ticket (λ held. IsOut after.state held))
          → IfOk answer (λ ticket. IfSome ticket (HoldsTicket shared.start new))
      claimed-held (Ok None) claimed made out_now = tt
      claimed-held (Ok (Some ticket)) claimed made out_now = holds-claimed ticket claimed made out_now
      claimed-held (Err refusal) claimed made out_now = tt

-- ---- over calls

pub honest-still : (shared : Begun Start) (old new : Story Start Event) (point at : ℕ) (middle last : State) (reads : List Read) → HasSeen shared old new point → state_by shared.start new at ≡ Some middle → state_by shared.start new (length new.seen) ≡ Some last
    → IsHonest (text_of_revision middle.history) reads → IsHonest (text_of_revision last.history) reads
honest-still shared old new point at middle last reads seen there now honest =
    let e : Some seen.state ≡ Some last = sym (run_present shared.start new.seen seen.state seen.run) ∙ now in
    let same : seen.state ≡ last = cc in
    subst (λ (s : State). IsHonest (text_of_revision s.history) reads) same (run_honest shared.start new.seen seen.state seen.run middle at reads there honest)

pub fit-still : (shared : Begun Start) (old new : Story Start Event) (point : ℕ) (ticket : ClaimOutcome) (draft : DraftShown) → HasSeen shared old new point → HoldsDraft shared.start old ticket draft → HoldsDraft shared.start new ticket draft
fit-still shared old new point ticket draft seen holds = record {
  state = seen.state;
  seen = run_present shared.start new.seen seen.state seen.run;
  fit = fit-later shared.start old new.seen seen.state ticket seen.run seen.seen draft holds;
}
