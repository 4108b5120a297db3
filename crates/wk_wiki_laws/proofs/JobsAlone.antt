-- What changes the jobs alone.
use Rattle.std.proofs.Common.{◌≡◌, ℕ, ◌+◌, Option, Some, None, sym, ap, ◌∙◌}
use Rattle.std.specs.Prelude.{option_map}
use Rattle.wk_wiki_rules.specs.Jobs.{JobLists, first_queued, page_held_by, claimed_by, given_back}
use Rattle.wk_wiki_rules.specs.Steps.{after_fan}
use Rattle.wk_wiki_rules.specs.States.{State}
use Rattle.wk_wiki_rules.specs.Events.{Claim, Back, Fan, with_jobs, step_by}

jobs_alone : {X : Type 0} (state next : State) (jobs : X → JobLists) (o : Option X) → option_map (λ x. with_jobs state (jobs x)) o ≡ Some next → next ≡ record state { jobs = next.jobs }
jobs_alone state next jobs None e = absurd cc
jobs_alone state next jobs (Some x) e =
    let same : with_jobs state (jobs x) ≡ next = (let some : Some (with_jobs state (jobs x)) ≡ Some next = e in cc) in
    sym same ∙ ap (λ (s : State). with_jobs state s.jobs) same

pub jobs_alone-claimed : (most : ℕ) (state next : State) (journal : ℕ) → step_by most state journal Claim ≡ Some next → next ≡ record state { jobs = next.jobs }
jobs_alone-claimed most state next journal = jobs_alone state next (λ _. claimed_by state.jobs (journal + 1)) (first_queued state.jobs)

pub jobs_alone-given_back : (most : ℕ) (state next : State) (journal ticket : ℕ) → step_by most state journal (Back ticket) ≡ Some next → next ≡ record state { jobs = next.jobs }
jobs_alone-given_back most state next journal ticket = jobs_alone state next (λ page. given_back state.jobs page) (page_held_by state.jobs ticket)

pub jobs_alone-fanned : (most : ℕ) (state next : State) (journal : ℕ) → step_by most state journal Fan ≡ Some next → next ≡ record state { jobs = next.jobs }
jobs_alone-fanned most state next journal = jobs_alone state next (λ jobs. jobs) (after_fan state.stored most state.jobs)
