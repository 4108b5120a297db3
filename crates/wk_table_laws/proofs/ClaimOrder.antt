-- Claimed refresh jobs stand before queued ones, in the order of their claims.
use Rattle.std.proofs.Common.{◌≡◌, ℕ, Bool, true, false, cond, eqb, not, List, [], ◌∷◌, ◌++◌, map, Option, Some, None, refl, sym, ap, ◌∙◌, inl, inr}
use Rattle.std.specs.Prelude.{filter, find, option_map, is_none}
use Rattle.std.specs.Option.{option_to_list}
use Rattle.std.specs.List.{AllByRecursion}
use Rattle.std.proofs.lemmas.Bool.{cases_Bool, cond_both, both_ways}
use Rattle.std.proofs.lemmas.List.{append-nil}
use Rattle.std.proofs.lemmas.List.Elements.{filter-append}
use Rattle.wk_text_rules.specs.Titles.{PageTitle}
use Rattle.wk_page_rules.specs.declared.Reach.{Reach}
use Rattle.wk_page_rules.specs.PageRows.{PageRows}
use Rattle.wk_wiki_rules.specs.Jobs.{RefreshEntry, FanEntry, JobLists, is_claimed, is_queued, first_claimed, jobs_of, jobs_of_others, queued_again, has_fan, has_refresh, refresh_queued, claimed_by, given_back, refresh_dropped, fan_set}
use Rattle.wk_wiki_rules.specs.Steps.{all_queued, after_save, after_serving, next_served, by_number, reopened_jobs}
use Rattle.wk_table_laws.specs.ClaimedFirst.{AreClaimedFirst, ClaimedStandFirst}

-- a job that is queued isn't claimed, and one that isn't is
queued-claimed : (job : RefreshEntry) (b : Bool) → is_queued job ≡ b → is_claimed job ≡ not b
queued-claimed job b is = of job.ticket refl
  where
    of : (o : Option ℕ) → job.ticket ≡ o → is_claimed job ≡ not b
    of None none = rw none (ap not (sym (ap is_none none) ∙ is))
    of (Some ticket) some = rw some (ap not (sym (ap is_none some) ∙ is))

first-queued : (jobs : List RefreshEntry) → AllByRecursion (λ job. is_queued job ≡ true) jobs → AreClaimedFirst jobs
first-queued [] all = tt
first-queued (job ∷ jobs) all = ((λ queued. all.1), first-queued jobs all.1)

each-append : (xs ys : List RefreshEntry) → AllByRecursion (λ job. is_queued job ≡ true) xs → AllByRecursion (λ job. is_queued job ≡ true) ys → AllByRecursion (λ job. is_queued job ≡ true) (xs ++ ys)
each-append [] ys front back = back
each-append (x ∷ xs) ys front back = (front.0, each-append xs ys front.1 back)

first-append : (xs ys : List RefreshEntry) → AreClaimedFirst xs → AllByRecursion (λ job. is_queued job ≡ true) ys → AreClaimedFirst (xs ++ ys)
first-append [] ys first back = first-queued ys back
first-append (x ∷ xs) ys first back = ((λ queued. each-append xs ys (first.0 queued) back), first-append xs ys first.1 back)

each-others : (page : ℕ) (jobs : List RefreshEntry) → AllByRecursion (λ job. is_queued job ≡ true) jobs → AllByRecursion (λ job. is_queued job ≡ true) (jobs_of_others page jobs)
each-others page [] all = tt
each-others page (job ∷ jobs) all = let later = each-others page jobs all.1 in
    elim (not (eqb job.page page)) as (λ b. AllByRecursion (λ other. is_queued other ≡ true) (cond b (job ∷ jobs_of_others page jobs) (jobs_of_others page jobs))) [ true ↦ (all.0, later) | false ↦ later ]

first-others : (page : ℕ) (jobs : List RefreshEntry) → AreClaimedFirst jobs → AreClaimedFirst (jobs_of_others page jobs)
first-others page [] first = tt
first-others page (job ∷ jobs) first = let later = first-others page jobs first.1 in
    elim (not (eqb job.page page)) as (λ b. AreClaimedFirst (cond b (job ∷ jobs_of_others page jobs) (jobs_of_others page jobs))) [
      | true ↦ ((λ queued. each-others page jobs (first.0 queued)), later)
      | false ↦ later
    ]

all-again : (jobs : List RefreshEntry) → AllByRecursion (λ job. is_queued job ≡ true) (map queued_again jobs)
all-again [] = tt
all-again (job ∷ jobs) = (refl, all-again jobs)

first-claimed : (jobs : List RefreshEntry) (ticket : ℕ) → AreClaimedFirst jobs → AreClaimedFirst (first_claimed jobs ticket)
first-claimed [] ticket first = tt
first-claimed (job ∷ jobs) ticket first = elim (cases_Bool (is_queued job)) [
  | inl queued ↦ rw queued ((λ never. absurd (let e : false ≡ true = never in cc)), first.1)
  | inr claimed ↦ rw claimed ((λ queued. absurd (both_ways (is_queued job) claimed queued)), first-claimed jobs ticket first.1)
]

pub first-of-queued : (lists : JobLists) (page : ℕ) → ClaimedStandFirst lists → ClaimedStandFirst (refresh_queued lists page)
first-of-queued lists page first = elim (cases_Bool (has_refresh lists page)) [
  | inl there ↦ rw there first
  | inr none ↦ rw none (first-append lists.refreshes (record { number = lists.next; page = page; ticket = None } ∷ []) first (refl, tt))
]

pub first-of-claimed : (lists : JobLists) (ticket : ℕ) → ClaimedStandFirst lists → ClaimedStandFirst (claimed_by lists ticket)
first-of-claimed lists ticket first = first-claimed lists.refreshes ticket first

pub first-of-given_back : (lists : JobLists) (page : ℕ) → ClaimedStandFirst lists → ClaimedStandFirst (given_back lists page)
first-of-given_back lists page first =
    first-append (jobs_of_others page lists.refreshes) (map queued_again (jobs_of page lists.refreshes)) (first-others page lists.refreshes first) (all-again (jobs_of page lists.refreshes))

pub first-of-dropped : (lists : JobLists) (page : ℕ) → ClaimedStandFirst lists → ClaimedStandFirst (refresh_dropped lists page)
first-of-dropped lists page first = first-others page lists.refreshes first

pub first-of-fan_set : (lists : JobLists) (title : PageTitle) (reach : Reach) → ClaimedStandFirst lists → ClaimedStandFirst (fan_set lists title reach)
first-of-fan_set lists title reach first = cond_both (has_fan lists title) _ _ ClaimedStandFirst (λ there. first) (λ none. first)

pub first-of-saved : (stored : List PageRows) (lists : JobLists) (page : ℕ) (title : PageTitle) (reach : Reach) → ClaimedStandFirst lists → ClaimedStandFirst (after_save stored lists page title reach)
first-of-saved stored lists page title reach first =
    let queued = first-of-queued lists page first in
    cond_both _ _ _ ClaimedStandFirst (λ named. first-of-fan_set (refresh_queued lists page) title reach queued) (λ nobody. queued)

first-of-all_queued : (lists : JobLists) (pages : List ℕ) → ClaimedStandFirst lists → ClaimedStandFirst (all_queued lists pages)
first-of-all_queued lists [] first = first
first-of-all_queued lists (page ∷ pages) first = first-of-all_queued (refresh_queued lists page) pages (first-of-queued lists page first)

pub first-of-served : (stored : List PageRows) (most : ℕ) (lists : JobLists) (fan : FanEntry) → ClaimedStandFirst lists → ClaimedStandFirst (after_serving stored most lists fan)
first-of-served stored most lists fan first =
    let served = first-of-all_queued lists (next_served stored most fan) first in
    cond_both _ _ _ ClaimedStandFirst (λ nobody. served) (λ others. served)

pub first-of-reopened : (lists : JobLists) → ClaimedStandFirst (reopened_jobs lists)
first-of-reopened lists = first-queued (map queued_again (by_number (λ job. job.number) lists.refreshes)) (all-again (by_number (λ job. job.number) lists.refreshes))

-- ---- the claimed ones alone

none-claimed : (jobs : List RefreshEntry) → AllByRecursion (λ job. is_queued job ≡ true) jobs → filter is_claimed jobs ≡ []
none-claimed [] all = refl
none-claimed (job ∷ jobs) all = rw (queued-claimed job true all.0) (none-claimed jobs all.1)

claims-claimed : (jobs : List RefreshEntry) (ticket : ℕ) → AreClaimedFirst jobs
    → filter is_claimed (first_claimed jobs ticket) ≡ filter is_claimed jobs ++ option_to_list (option_map (λ (job : RefreshEntry). record job { ticket = Some ticket }) (find is_queued jobs))
claims-claimed [] ticket first = refl
claims-claimed (job ∷ jobs) ticket first = elim (cases_Bool (is_queued job)) [
  | inl queued ↦ rw (queued, queued-claimed job true queued, none-claimed jobs (first.0 queued)) refl
  | inr claimed ↦ rw (claimed, queued-claimed job false claimed) (ap (λ all. job ∷ all) (claims-claimed jobs ticket first.1))
]

claims-others : (page : ℕ) (jobs : List RefreshEntry) → filter is_claimed (jobs_of_others page jobs) ≡ jobs_of_others page (filter is_claimed jobs)
claims-others page [] = refl
claims-others page (job ∷ jobs) = elim (cases_Bool (eqb job.page page)) [
  | inl own ↦ elim (cases_Bool (is_claimed job)) [ inl claimed ↦ rw (own, claimed, own) (claims-others page jobs) | inr queued ↦ rw (own, queued) (claims-others page jobs) ]
  | inr other ↦ elim (cases_Bool (is_claimed job)) [
    | inl claimed ↦ rw (other, claimed, other) (ap (λ all. job ∷ all) (claims-others page jobs))
    | inr queued ↦ rw (other, queued) (claims-others page jobs)
  ]
]

pub claims-of-claimed : (lists : JobLists) (ticket : ℕ) → ClaimedStandFirst lists
    → filter is_claimed (claimed_by lists ticket).refreshes ≡ filter is_claimed lists.refreshes ++ option_to_list (option_map (λ (job : RefreshEntry). record job { ticket = Some ticket }) (find is_queued lists.refreshes))
claims-of-claimed lists ticket first = claims-claimed lists.refreshes ticket first

pub claims-of-queued : (lists : JobLists) (page : ℕ) → filter is_claimed (refresh_queued lists page).refreshes ≡ filter is_claimed lists.refreshes
claims-of-queued lists page = elim (cases_Bool (has_refresh lists page)) [
  | inl there ↦ rw there refl
  | inr none ↦ rw none (filter-append is_claimed lists.refreshes (record { number = lists.next; page = page; ticket = None } ∷ []) ∙ append-nil (filter is_claimed lists.refreshes))
]

pub claims-of-given_back : (lists : JobLists) (page : ℕ) → filter is_claimed (given_back lists page).refreshes ≡ jobs_of_others page (filter is_claimed lists.refreshes)
claims-of-given_back lists page =
    filter-append is_claimed (jobs_of_others page lists.refreshes) (map queued_again (jobs_of page lists.refreshes))
    ∙ ap (λ all. filter is_claimed (jobs_of_others page lists.refreshes) ++ all) (none-claimed (map queued_again (jobs_of page lists.refreshes)) (all-again (jobs_of page lists.refreshes)))
    ∙ append-nil (filter is_claimed (jobs_of_others page lists.refreshes)) ∙ claims-others page lists.refreshes

pub claims-of-dropped : (lists : JobLists) (page : ℕ) → filter is_claimed (refresh_dropped lists page).refreshes ≡ jobs_of_others page (filter is_claimed lists.refreshes)
claims-of-dropped lists page = claims-others page lists.refreshes
