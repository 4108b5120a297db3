-- The ticket of a claim.
use Rattle.std.proofs.Common.{◌≡◌, ◌≢◌, ℕ, zero, suc, ◌+◌, ◌-◌, ◌≤◌, ◌<◌, false, cond, eqb, List, [], ◌∷◌, length, Option, Some, None, Result, Ok, Err, refl, sym, ap, ◌∙◌, inl, inr, subst, arith}
use Rattle.std.specs.Prelude.{IfOk, IfSome, option_map, pos, slice_get, is_some, unwrap_or, if◌then◌else◌}
use Rattle.std.proofs.lemmas.Bool.{cases_Bool, eqb-true}
use Rattle.wk_text_rules.specs.Titles.{PageTitle, title_eq}
use Rattle.wk_page_rules.specs.History.{History, Page, next_revision, saved, with_current}
use Rattle.wk_wiki_rules.specs.Jobs.{claimed_by, first_queued, page_held_by}
use Rattle.wk_wiki_rules.specs.States.{State, page_at, title_at}
use Rattle.wk_wiki_rules.specs.Events.{Event, Save, Claim, Done, Back, Fan, step, with_jobs}
use Rattle.wk_wiki_rules.specs.Steps.{fan_pages}
use Rattle.wk_wiki_laws.proofs.Histories.{history-claimed, history-fanned, history-given_back, history-refreshed, history-saved}
use Rattle.wk_wiki_laws.proofs.Refreshed.{held-within}
use Rattle.wk_wiki_rules.specs.Claims.{ClaimOutcome}
use Rattle.wk_wiki_rules.specs.Starts.{Start}
use Rattle.wk_life_laws.specs.Runs.{IsRun}
use Rattle.wk_life_laws.proofs.RunFacts.{run_kept}
use Rattle.wk_life_laws.specs.Lives.{Life, IsLife, journal_of, start_of}
use Rattle.wk_life_laws.specs.Next.{IsNext}
use Rattle.wk_life_laws.proofs.RunTickets.{run_claimed, run_stays}
use Rattle.wk_core.specs.Tickets.{IsOut, ticket_out}

pub titled-page : (o : Option ℕ) (f : ℕ → PageTitle) (title : PageTitle) → Some title ≡ option_map f o → (page : ℕ) × ((o ≡ Some page) × (title ≡ f page))
titled-page None f title is = absurd (let e : Some title ≡ None = is in cc)
titled-page (Some page) f title is = let e : Some title ≡ Some (f page) = is in (page, (refl, cc))

-- it is out, of the page of the first queued job
pub claimed-out : (life next : Life) (page number : ℕ) (title : PageTitle) → IsLife life → IsNext life Claim next → first_queued life.state.jobs ≡ Some page
    → number ≡ length (journal_of life) + 1 → title ≡ title_at life.state.history page → IsOut next.state (record { ticket = number; title = title })
claimed-out life next page number title is made first at titled =
    let claimed = with_jobs life.state (claimed_by life.state.jobs (length (journal_of life) + 1)) in
    let done : Some claimed ≡ Some next.state = sym (ap (option_map (λ _. claimed)) first) ∙ made.done in
    let same : claimed ≡ next.state = cc in
    let holds = run_claimed (start_of life) (journal_of life) life.state is.run page first in
    record {
      page = page;
      held = subst (λ (s : State). page_held_by s.jobs number ≡ Some page) same (subst (λ n. page_held_by claimed.jobs n ≡ Some page) (sym at) holds);
      titled = subst (λ (s : State). title_at s.history page ≡ title) same (sym titled);
    }

-- what is given by a number is out
pub tickets-out : {E : Type 0} (state : State) (number : ℕ) (answer : Result (Option ClaimOutcome) E) → IfOk answer (λ ticket. ticket ≡ ticket_out state number) → IfOk answer (λ ticket. IfSome ticket (λ out. IsOut state out))
tickets-out state number (Err e) given = tt
tickets-out state number (Ok None) given = tt
tickets-out state number (Ok (Some ticket)) given = by (page_held_by state.jobs number) refl given
  where
    by : (o : Option ℕ) → page_held_by state.jobs number ≡ o → Some ticket ≡ option_map (λ page. let out : ClaimOutcome = record { ticket = number; title = title_at state.history page } in out) o → IsOut state ticket
    by None none is = absurd (let e : Some ticket ≡ None = is in cc)
    by (Some page) held is =
        let same : ticket ≡ record { ticket = number; title = title_at state.history page } = (let e : Some ticket ≡ Some (record { ticket = number; title = title_at state.history page }) = is in cc) in
        record {
          page = page;
          held = subst (λ (t : ClaimOutcome). page_held_by state.jobs t.ticket ≡ Some page) (sym same) held;
          titled = sym (ap (λ (t : ClaimOutcome). t.title) same);
        }

-- ---- over other events

page-in : (pages : List Page) (k : ℕ) → k < length pages → (at : Page) × (slice_get pages k ≡ Some at)
page-in [] k within = absurd (omega (arith, within))
page-in (page ∷ pages) zero within = (page, refl)
page-in (page ∷ pages) (suc k) within = page-in pages k (omega (arith, within))

-- a page keeps its title where a page gets another current revision, or one is added
titles-same : (pages : List Page) (title : PageTitle) (number k : ℕ) (at : Page) → slice_get pages k ≡ Some at → (now : Page) × ((slice_get (with_current pages title number) k ≡ Some now) × (now.title ≡ at.title))
titles-same [] title number zero at there = absurd (let e : None ≡ Some at = there in cc)
titles-same [] title number (suc k) at there = absurd (let e : None ≡ Some at = there in cc)
titles-same (page ∷ pages) title number zero at there =
    let same : page ≡ at = (let e : Some page ≡ Some at = there in cc) in
    elim (cases_Bool (title_eq page.title title)) [
      | inl its ↦ rw its (record { title = page.title; current = number }, (refl, ap (λ (p : Page). p.title) same))
      | inr other ↦ rw other (page, (refl, ap (λ (p : Page). p.title) same))
    ]
titles-same (page ∷ pages) title number (suc k) at there =
    elim (cases_Bool (title_eq page.title title)) [
      | inl its ↦ rw its (at, (there, refl))
      | inr other ↦ rw other (titles-same pages title number k at there)
    ]

title-of : (h : History) (page : ℕ) (at : Page) → 1 ≤ page → slice_get h.pages (page - 1) ≡ Some at → title_at h page ≡ at.title
title-of h page at some there =
    let number : eqb page 0 ≡ false = (elim (cases_Bool (eqb page 0)) [ inl zero_page ↦ absurd (let e = eqb-true page 0 zero_page in omega (arith, e, some)) | inr other ↦ other ]) in
    let found : page_at h page ≡ Some at = ap (λ b. cond b None (slice_get h.pages (page - 1))) number ∙ there in
    ap (λ o. unwrap_or (option_map (λ (p : Page). p.title) o) (record { ns = pos 0; key = [] })) found

pub title-stays : (state next : State) (journal : ℕ) (event : Event) (page : ℕ) → step state journal event ≡ Some next → 1 ≤ page → page ≤ length state.history.pages
    → title_at next.history page ≡ title_at state.history page
unfolding saved
title-stays state next journal event page done some within = by event done
  where
    at : (p : Page) × (slice_get state.history.pages (page - 1) ≡ Some p)
    at = page-in state.history.pages (page - 1) (omega (arith, some, within))

    by : (e : Event) → step state journal e ≡ Some next → title_at next.history page ≡ title_at state.history page
    by (Save title text moment) made =
        let history = history-saved fan_pages state next journal title text moment made in
        let now = titles-same state.history.pages title (if is_some text then next_revision state.history else 0) (page - 1) at.0 at.1 in
        ap (λ (h : History). title_at h page) history
        ∙ (title-of (saved state.history title text moment) page now.0 some now.1.0 ∙ (now.1.1 ∙ sym (title-of state.history page at.0 some at.1)))
    by Claim made = ap (λ (h : History). title_at h page) (history-claimed fan_pages state next journal made)
    by (Done ticket) made = ap (λ (h : History). title_at h page) (history-refreshed fan_pages state next journal ticket made)
    by (Back ticket) made = ap (λ (h : History). title_at h page) (history-given_back fan_pages state next journal ticket made)
    by Fan made = ap (λ (h : History). title_at h page) (history-fanned fan_pages state next journal made)

pub out-stays : (start : Start) (journal : List Event) (state next : State) (event : Event) (ticket : ClaimOutcome) → IsRun start journal state → step state (length journal) event ≡ Some next → IsOut state ticket
    → event ≢ Done ticket.ticket → event ≢ Back ticket.ticket → IsOut next ticket
out-stays start journal state next event ticket run made out not_done not_back =
    let formed = (run_kept start journal state run).formed in
    let within = held-within state ticket.ticket out.page formed out.held in
    let some = within.0 in
    let few = within.1 in
    let as_many = formed.stored in
    record {
      page = out.page;
      held = run_stays start journal state run next event ticket.ticket out.page made out.held not_done not_back;
      titled = title-stays state next (length journal) event out.page made some (omega (arith, few, as_many)) ∙ out.titled;
    }
