-- What each event does to the revisions and the pages.
use Rattle.std.proofs.Common.{◌≡◌, ℕ, ◌+◌, Bool, true, false, cond, List, Option, Some, None, refl, sym, ap, ◌∙◌}
use Rattle.std.specs.Prelude.{option_map}
use Rattle.wk_text_rules.specs.Titles.{PageTitle}
use Rattle.wk_page_rules.specs.History.{History, saved, can_save}
use Rattle.wk_wiki_rules.specs.Jobs.{first_queued, page_held_by, claimed_by, given_back}
use Rattle.wk_wiki_rules.specs.Steps.{after_fan}
use Rattle.wk_wiki_rules.specs.States.{State}
use Rattle.wk_wiki_rules.specs.Events.{Save, Claim, Done, Back, Fan, with_saved, with_refreshed, with_jobs, step_by}

-- where there is such a step, its state has what each such state has
kept_by_step : {X : Type 0} (f : X → State) (h : History) (o : Option X) (next : State) → ((x : X) → (f x).history ≡ h) → option_map f o ≡ Some next → next.history ≡ h
kept_by_step f h None next keeps e = absurd cc
kept_by_step f h (Some x) next keeps e =
    let same : f x ≡ next = (let some : Some (f x) ≡ Some next = e in cc) in
    ap (λ (state : State). state.history) (sym same) ∙ keeps x

pub history-saved : (most : ℕ) (state next : State) (journal : ℕ) (title : PageTitle) (text : Option (List ℕ)) (moment : ℕ)
    → step_by most state journal (Save title text moment) ≡ Some next → next.history ≡ saved state.history title text moment
history-saved most state next journal title text moment = go (can_save state.history title text) (with_saved state title text moment)
  where
    go : (b : Bool) (after : State) → cond b (Some after) None ≡ Some next → next.history ≡ after.history
    go false after e = absurd cc
    go true after e =
        let same : after ≡ next = (let some : Some after ≡ Some next = e in cc) in
        ap (λ (state : State). state.history) (sym same)

pub history-claimed : (most : ℕ) (state next : State) (journal : ℕ) → step_by most state journal Claim ≡ Some next → next.history ≡ state.history
history-claimed most state next journal =
    kept_by_step (λ _. with_jobs state (claimed_by state.jobs (journal + 1))) state.history (first_queued state.jobs) next (λ _. refl)

pub history-refreshed : (most : ℕ) (state next : State) (journal ticket : ℕ) → step_by most state journal (Done ticket) ≡ Some next → next.history ≡ state.history
history-refreshed most state next journal ticket =
    kept_by_step (λ page. with_refreshed state page) state.history (page_held_by state.jobs ticket) next (λ _. refl)

pub history-given_back : (most : ℕ) (state next : State) (journal ticket : ℕ) → step_by most state journal (Back ticket) ≡ Some next → next.history ≡ state.history
history-given_back most state next journal ticket =
    kept_by_step (λ page. with_jobs state (given_back state.jobs page)) state.history (page_held_by state.jobs ticket) next (λ _. refl)

pub history-fanned : (most : ℕ) (state next : State) (journal : ℕ) → step_by most state journal Fan ≡ Some next → next.history ≡ state.history
history-fanned most state next journal =
    kept_by_step (λ jobs. with_jobs state jobs) state.history (after_fan state.stored most state.jobs) next (λ _. refl)
