-- The tickets that are out stay so, with their drafts, over the events of others.
use Rattle.std.proofs.Common.{◌≡◌, ◌≢◌, ℕ, ◌+◌, ◌<◌, Bool, true, false, not, cond, eqb, List, [], ◌∷◌, ◌++◌, length, map, Some, sym, subst, arith}
use Rattle.std.proofs.lemmas.List.Elements.{All-push}
use Rattle.std.specs.List.{AllByRecursion}
use Rattle.std.specs.Prelude.{find}
use Rattle.wk_page_rules.specs.History.{text_of_revision}
use Rattle.wk_text_rules.specs.Titles.{PageTitle}
use Rattle.wk_view_rules.specs.Worlds.{HasItsText, Read, page_of}
use Rattle.wk_view_rules.specs.declared.Kind.{Kind}
use Rattle.wk_wiki_rules.specs.Steps.{fan_pages}
use Rattle.wk_table_laws.specs.InOrder.{Rises}
use Rattle.wk_wiki_rules.specs.States.{State}
use Rattle.wk_wiki_rules.specs.Events.{Event, Done, Back, Claim, step}
use Rattle.wk_wiki_laws.proofs.HonestReads.{IsHonest-stepped}
use Rattle.wk_life_laws.proofs.Marks.{answer-honest}
use Rattle.wk_wiki_rules.specs.Claims.{ClaimOutcome}
use Rattle.wk_wiki_rules.specs.Starts.{Start}
use Rattle.wk_life_laws.specs.Runs.{IsRun}
use Rattle.wk_life_laws.proofs.RunTickets.{run_numbers}
use Rattle.wk_core.specs.Tickets.{IsOut}
use Rattle.wk_core.proofs.TicketFacts.{out-stays}
use Rattle.wk_script_rules.specs.Steps.{present_read}
use Rattle.wk_script_rules.specs.WikiScripts.{TicketDraft, read_further}
use Rattle.wk_script_laws.proofs.Drafts.{each-push, each-kept, each-weaker, found, tickets-read, rises-push, rises-kept, other-ticket}
use Rattle.wk_script_steps.specs.Drafts.{begun, has_number, longer, others}
use Rattle.wk_script_steps.specs.Seen.{Holds, IsFit, claim_of}

-- one that is found is fit, and has the number
pub found-fit : (state : State) (number : ℕ) (drafts : List TicketDraft) (draft : TicketDraft) → Holds state drafts → find (has_number number) drafts ≡ Some draft
    → IsFit state draft × (eqb draft.ticket number ≡ true)
found-fit state number drafts draft holds is = found (IsFit state) (has_number number) drafts draft holds.each is

module _ (start : Start) (journal : List Event) (state next : State) (event : Event) (run : IsRun start journal state) (made : step state (length journal) event ≡ Some next) where
  -- over an event that doesn't bring it in
  pub fit-stays : (draft : TicketDraft) → event ≢ Done draft.ticket → event ≢ Back draft.ticket → IsFit state draft → IsFit next draft
  fit-stays draft not_done not_back fit = record {
    out = out-stays start journal state next event (claim_of draft) run made fit.out not_done not_back;
    honest = IsHonest-stepped fan_pages state next (length journal) event draft.seen made fit.honest;
  }

  -- an event that brings no ticket in
  pub holds-on : (drafts : List TicketDraft) → ((t : ℕ) → (event ≢ Done t) × (event ≢ Back t)) → Holds state drafts → Holds next drafts
  holds-on drafts plain holds = record {
    each = each-weaker (IsFit state) (IsFit next) drafts (λ d fit. fit-stays d (plain d.ticket).0 (plain d.ticket).1 fit) holds.each;
    rises = holds.rises;
  }

  -- one that brings this ticket in, which goes
  pub holds-others : (number : ℕ) (drafts : List TicketDraft) → ((other : ℕ) → (other ≡ number → ⊥) → (event ≢ Done other) × (event ≢ Back other)) → Holds state drafts
      → Holds next (others number drafts)
  holds-others number drafts closes_it holds = record {
    each = each-kept (IsFit state) (IsFit next) (λ draft. not (has_number number draft)) drafts
        (λ d fit other. let apart = closes_it d.ticket (other-ticket d.ticket number other) in fit-stays d apart.0 apart.1 fit) holds.each;
    rises = rises-kept (λ draft. not (has_number number draft)) drafts holds.rises;
  }

-- the event Done brings only its own ticket in, and so does Back
pub done-apart : (number other : ℕ) → (other ≡ number → ⊥) → (Done number ≢ Done other) × (Done number ≢ Back other)
done-apart number other apart = (λ e. let same : Done number ≡ Done other = e in apart (sym cc), λ e. cc)

pub back-apart : (number other : ℕ) → (other ≡ number → ⊥) → (Back number ≢ Done other) × (Back number ≢ Back other)
back-apart number other apart = (λ e. cc, λ e. let same : Back number ≡ Back other = e in apart (sym cc))

-- behind a claim, with its ticket
pub holds-claimed : (start : Start) (journal : List Event) (state next : State) (claim : ClaimOutcome) (drafts : List TicketDraft) → IsRun start journal state
    → step state (length journal) Claim ≡ Some next → IsOut next claim → claim.ticket ≡ length journal + 1 → Holds state drafts → Holds next (drafts ++ begun claim ∷ [])
holds-claimed start journal state next claim drafts run made out number holds = record {
  each = each-push (IsFit next) drafts (begun claim)
      (each-weaker (IsFit state) (IsFit next) drafts (λ d fit. fit-stays start journal state next Claim run made d (λ e. cc) (λ e. cc) fit) holds.each)
      (record { out = out; honest = λ k d within. absurd (omega (arith, within)) });
  rises = rises-push drafts (begun claim) holds.rises
      (each-weaker (IsFit state) (λ d. d.ticket < claim.ticket) drafts
      (λ d fit. let held = fit.out.held in let numbers = run_numbers start journal state run d.ticket fit.out.page held in let last = numbers.1 in omega (arith, last, number)) holds.each);
}

-- with one more read of the present world
honest-longer : (state : State) (draft : TicketDraft) (title : PageTitle) (kind : Kind) → IsFit state draft → IsFit state (longer draft (present_read state title kind))
honest-longer state draft title kind fit = record {
  out = record { page = fit.out.page; held = fit.out.held; titled = fit.out.titled };
  honest = All-push (λ (r : Read). HasItsText (text_of_revision state.history) (page_of r.answer)) draft.seen (present_read state title kind) fit.honest
      (answer-honest state.history title kind);
}

pub holds-read : (state : State) (number : ℕ) (title : PageTitle) (kind : Kind) (drafts : List TicketDraft) → Holds state drafts
    → Holds state (map (read_further number (present_read state title kind)) drafts)
holds-read state number title kind drafts holds = record {
  each = each-longer drafts holds.each;
  rises = subst Rises (sym (tickets-read number (present_read state title kind) drafts)) holds.rises;
}
  where
    by : (b : Bool) (d : TicketDraft) → IsFit state d → IsFit state (cond b (longer d (present_read state title kind)) d)
    by true d fit = honest-longer state d title kind fit
    by false d fit = fit

    each-longer : (ds : List TicketDraft) → AllByRecursion (IsFit state) ds → AllByRecursion (IsFit state) (map (read_further number (present_read state title kind)) ds)
    each-longer [] all = tt
    each-longer (d ∷ ds) all = (by (eqb d.ticket number) d all.0, each-longer ds all.1)
