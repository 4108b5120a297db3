-- The tickets that are out behind each event.
use Rattle.std.proofs.Common.{◌≡◌, ℕ, ◌+◌, ◌≤◌, List, Option, Some, None, ap, ◌∙◌, sym}
use Rattle.std.specs.Prelude.{is_some, option_map}
use Rattle.wk_text_rules.specs.Titles.{PageTitle}
use Rattle.wk_page_rules.specs.History.{page_exists, page_to_save}
use Rattle.wk_wiki_rules.specs.Jobs.{FanEntry, JobLists, claimed_by, first_fan, given_back, page_held_by}
use Rattle.wk_wiki_rules.specs.Steps.{after_fan, after_serving, next_served, reach_of_save}
use Rattle.wk_wiki_rules.specs.States.{State}
use Rattle.wk_wiki_rules.specs.Events.{stored_with, with_jobs, with_refreshed, with_saved}
use Rattle.wk_wiki_rules.specs.Room.{tickets_out}
use Rattle.wk_wiki_laws.proofs.TicketsOut.{out, out-all_queued, out-claimed, out-dropped, out-given_back, out-queued, refreshes-saved, refreshes-served}

pub out_saved : (state : State) (title : PageTitle) (text : Option (List ℕ)) (moment : ℕ) → tickets_out (with_saved state title text moment) ≡ tickets_out state
out_saved state title text moment =
    let page = page_to_save state.history title in
    ap out (refreshes-saved (stored_with state title) state.jobs page title (reach_of_save (page_exists state.history title) (is_some text))) ∙ out-queued state.jobs page

pub out_claimed : (state : State) (ticket : ℕ) → tickets_out (with_jobs state (claimed_by state.jobs ticket)) ≤ tickets_out state + 1
out_claimed state ticket = out-claimed state.jobs.refreshes ticket

pub out_done : (state : State) (ticket page : ℕ) → page_held_by state.jobs ticket ≡ Some page → tickets_out (with_refreshed state page) + 1 ≤ tickets_out state
out_done state ticket page holds = out-dropped state.jobs ticket page holds

pub out_back : (state : State) (ticket page : ℕ) → page_held_by state.jobs ticket ≡ Some page → tickets_out (with_jobs state (given_back state.jobs page)) + 1 ≤ tickets_out state
out_back state ticket page holds = out-given_back state.jobs ticket page holds

pub out_fanned : (most : ℕ) (state : State) (jobs : JobLists) → after_fan state.stored most state.jobs ≡ Some jobs → tickets_out (with_jobs state jobs) ≡ tickets_out state
out_fanned most state jobs after = by (first_fan state.jobs) after
  where
    by : (o : Option FanEntry) → option_map (after_serving state.stored most state.jobs) o ≡ Some jobs → tickets_out (with_jobs state jobs) ≡ tickets_out state
    by None none = absurd (let e : None ≡ Some jobs = none in cc)
    by (Some fan) is =
        let got : Some (after_serving state.stored most state.jobs fan) ≡ Some jobs = is in
        let same : after_serving state.stored most state.jobs fan ≡ jobs = cc in
        ap (λ (lists : JobLists). out lists.refreshes) (sym same) ∙ (ap out (refreshes-served state.stored most state.jobs fan) ∙ out-all_queued state.jobs (next_served state.stored most fan))
