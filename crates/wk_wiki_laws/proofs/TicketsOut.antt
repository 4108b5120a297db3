-- How many tickets are out after each event.
use Rattle.std.proofs.Common.{◌≡◌, ℕ, ◌+◌, ◌≤◌, Bool, true, false, cond, eqb, not, List, [], ◌∷◌, ◌++◌, map, Option, Some, None, refl, ap, ◌∙◌, inl, inr, subst, arith}
use Rattle.std.specs.Prelude.{find, filter, count_by, option_map, is_some}
use Rattle.std.proofs.lemmas.Bool.{cases_Bool, cond_both, eqb-true, eq-eqb}
use Rattle.std.proofs.lemmas.List.Sums.{sum_by-cons, sum_by-append}
use Rattle.wk_text_rules.specs.Titles.{PageTitle}
use Rattle.wk_page_rules.specs.declared.Reach.{Reach}
use Rattle.wk_page_rules.specs.PageRows.{PageRows}
use Rattle.wk_wiki_rules.specs.Jobs.{RefreshEntry, FanEntry, JobLists, is_queued, is_claimed, is_held_by, has_refresh, has_fan, first_claimed, jobs_of, jobs_of_others, queued_again, refresh_queued, refresh_dropped, given_back, fan_set, page_held_by}
use Rattle.wk_wiki_rules.specs.Steps.{all_queued, after_save, after_serving, next_served}

abbrev pub out : List RefreshEntry → ℕ
out jobs = count_by is_claimed jobs

pub out-cons : (job : RefreshEntry) (jobs : List RefreshEntry) → out (job ∷ jobs) ≡ cond (is_claimed job) 1 0 + out jobs
out-cons job jobs = sum_by-cons (λ (j : RefreshEntry). cond (is_claimed j) 1 0) job jobs

out-append : (xs ys : List RefreshEntry) → out (xs ++ ys) ≡ out xs + out ys
out-append xs ys = sum_by-append (λ (j : RefreshEntry). cond (is_claimed j) 1 0) xs ys

pub out-queued : (lists : JobLists) (page : ℕ) → out (refresh_queued lists page).refreshes ≡ out lists.refreshes
out-queued lists page = elim (cases_Bool (has_refresh lists page)) [
  | inl there ↦ rw there refl
  | inr none ↦
      let more = out-append lists.refreshes (record { number = lists.next; page = page; ticket = None } ∷ []) in
      rw none (omega (arith, more))
]

pub out-all_queued : (lists : JobLists) (pages : List ℕ) → out (all_queued lists pages).refreshes ≡ out lists.refreshes
out-all_queued lists [] = refl
out-all_queued lists (page ∷ pages) = out-all_queued (refresh_queued lists page) pages ∙ out-queued lists page

pub refreshes-set : (lists : JobLists) (title : PageTitle) (reach : Reach) → (fan_set lists title reach).refreshes ≡ lists.refreshes
refreshes-set lists title reach = elim (cases_Bool (has_fan lists title)) [ inl there ↦ rw there refl | inr none ↦ rw none refl ]

pub refreshes-saved : (stored : List PageRows) (lists : JobLists) (page : ℕ) (title : PageTitle) (reach : Reach) → (after_save stored lists page title reach).refreshes ≡ (refresh_queued lists page).refreshes
refreshes-saved stored lists page title reach =
    cond_both _ _ _ (λ (after : JobLists). after.refreshes ≡ (refresh_queued lists page).refreshes) (λ named. refreshes-set (refresh_queued lists page) title reach) (λ nobody. refl)

pub refreshes-served : (stored : List PageRows) (most : ℕ) (lists : JobLists) (fan : FanEntry) → (after_serving stored most lists fan).refreshes ≡ (all_queued lists (next_served stored most fan)).refreshes
refreshes-served stored most lists fan =
    cond_both _ _ _ (λ (after : JobLists). after.refreshes ≡ (all_queued lists (next_served stored most fan)).refreshes) (λ nobody. refl) (λ others. refl)

pub out-claimed : (jobs : List RefreshEntry) (ticket : ℕ) → out (first_claimed jobs ticket) ≤ out jobs + 1
out-claimed [] ticket = omega arith
out-claimed (job ∷ jobs) ticket =
    let later = out-claimed jobs ticket in
    let now = out-cons job jobs in
    elim (cases_Bool (is_queued job)) [
      | inl queued ↦
          let first = out-cons (record job { ticket = Some ticket }) jobs in
          rw queued (omega (arith, first, now))
      | inr claimed ↦
          let kept = out-cons job (first_claimed jobs ticket) in
          rw claimed (omega (arith, kept, now, later))
    ]

out-filter : (p : RefreshEntry → Bool) (jobs : List RefreshEntry) → out (filter p jobs) ≤ out jobs
out-filter p [] = omega arith
out-filter p (job ∷ jobs) =
    let later = out-filter p jobs in
    let now = out-cons job jobs in
    elim (cases_Bool (p job)) [
      | inl passes ↦ let kept = out-cons job (filter p jobs) in rw passes (omega (arith, kept, now, later))
      | inr fails ↦ rw fails (omega (arith, now, later))
    ]

pub out-again : (jobs : List RefreshEntry) → out (map queued_again jobs) ≡ 0
out-again [] = refl
out-again (job ∷ jobs) =
    let first = out-cons (queued_again job) (map queued_again jobs) in
    let later = out-again jobs in
    omega (arith, first, later)

-- a job that is held is claimed
pub held-ticket : (ticket : ℕ) (job : RefreshEntry) → is_held_by ticket job ≡ true → job.ticket ≡ Some ticket
held-ticket ticket job held = by job.ticket refl held
  where
    by : (o : Option ℕ) → job.ticket ≡ o → (elim o as (λ p. Bool) [ None ↦ false | Some other ↦ eqb other ticket ]) ≡ true → job.ticket ≡ Some ticket
    by None is wrong = absurd (let e : false ≡ true = wrong in cc)
    by (Some other) is same = is ∙ ap (λ n. Some n) (eqb-true other ticket same)

-- the job of a ticket
pub held-job : (lists : JobLists) (ticket page : ℕ) → page_held_by lists ticket ≡ Some page → (job : RefreshEntry) × ((find (is_held_by ticket) lists.refreshes ≡ Some job) × (job.page ≡ page))
held-job lists ticket page holds = by (find (is_held_by ticket) lists.refreshes) refl holds
  where
    by : (o : Option RefreshEntry) → find (is_held_by ticket) lists.refreshes ≡ o → option_map (λ (job : RefreshEntry). job.page) o ≡ Some page → (job : RefreshEntry) × ((find (is_held_by ticket) lists.refreshes ≡ Some job) × (job.page ≡ page))
    by None is none = absurd (let e : None ≡ Some page = none in cc)
    by (Some job) is some = (job, (is, let e : Some job.page ≡ Some page = some in cc))

-- where a page's job is claimed, there is a ticket less once its job goes
pub out-others : (ticket : ℕ) (job : RefreshEntry) (jobs : List RefreshEntry) → find (is_held_by ticket) jobs ≡ Some job → out (jobs_of_others job.page jobs) + 1 ≤ out jobs
out-others ticket job [] found = absurd (let e : None ≡ Some job = found in cc)
out-others ticket job (first ∷ jobs) found =
    let now = out-cons first jobs in
    elim (cases_Bool (is_held_by ticket first)) [
      | inl held ↦
          let got : Some first ≡ Some job = rw held at found in
          let is : first ≡ job = cc in
          let own : eqb first.page job.page ≡ true = eq-eqb first.page job.page (ap (λ (j : RefreshEntry). j.page) is) in
          let has = held-ticket ticket first held in
          let claimed : is_claimed first ≡ true = ap (λ o. is_some o) has in
          let rest = out-filter (λ (j : RefreshEntry). not (eqb j.page job.page)) jobs in
          let one : cond {A = ℕ} (is_claimed first) 1 0 ≡ 1 = ap (λ (b : Bool). cond {A = ℕ} b 1 0) claimed in
          rw own (omega (arith, now, one, rest))
      | inr other ↦
          let later = out-others ticket job jobs (rw other at found) in
          elim (cases_Bool (eqb first.page job.page)) [
            | inl own ↦ rw own (omega (arith, now, later))
            | inr apart ↦ let kept = out-cons first (jobs_of_others job.page jobs) in rw apart (omega (arith, kept, now, later))
          ]
    ]

pub out-dropped : (lists : JobLists) (ticket page : ℕ) → page_held_by lists ticket ≡ Some page → out (refresh_dropped lists page).refreshes + 1 ≤ out lists.refreshes
out-dropped lists ticket page holds =
    let job = held-job lists ticket page holds in
    let less = out-others ticket job.0 lists.refreshes job.1.0 in
    subst (λ n. out (jobs_of_others n lists.refreshes) + 1 ≤ out lists.refreshes) job.1.1 less

pub out-given_back : (lists : JobLists) (ticket page : ℕ) → page_held_by lists ticket ≡ Some page → out (given_back lists page).refreshes + 1 ≤ out lists.refreshes
out-given_back lists ticket page holds =
    let less = out-dropped lists ticket page holds in
    let both = out-append (jobs_of_others page lists.refreshes) (map queued_again (jobs_of page lists.refreshes)) in
    let none = out-again (jobs_of page lists.refreshes) in
    omega (arith, less, both, none)

pub out-one : (lists : JobLists) (ticket page : ℕ) → page_held_by lists ticket ≡ Some page → 1 ≤ out lists.refreshes
out-one lists ticket page holds = let less = out-dropped lists ticket page holds in omega (arith, less)
