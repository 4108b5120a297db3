-- What the calls do to the pages, the titles and the numbers of the job lists.
use Rattle.std.proofs.Common.{◌≡◌, ℕ, ◌+◌, ◌<◌, ◌≤◌, Bool, true, false, cond, eqb, ltb, ◌||◌, ◌&&◌, not, List, [], ◌∷◌, ◌++◌, map, fold, drop, get_or, max, Option, Some, None, refl, sym, ap, ◌∙◌, inl, inr, subst, arith}
use Rattle.std.specs.List.{All, AllByRecursion, IsDistinct, list_any}
use Rattle.std.specs.List.Sorted.{IsPermutation}
use Rattle.std.proofs.lemmas.Bool.{cases_Bool, cond_both, eqb-true, ne_eqb, or_right, and_right}
use Rattle.std.proofs.lemmas.List.{append-nil, append_assoc, map-append}
use Rattle.std.proofs.lemmas.List.Elements.{All-from_recursion, All-nil, All-push, All-tail, All-weaker}
use Rattle.std.proofs.lemmas.List.Folds.{list_any-append, list_any_none}
use Rattle.std.proofs.lemmas.List.Sorted.{All-permutation, IsPermutation-refl, IsPermutation-map, IsPermutation-cons, IsPermutation-trans, IsPermutation-middle, IsPermutation-to_front, IsPermutation-filter_both, IsPermutation-append_comm, IsPermutation-append_left, IsPermutation-append_right, list_any-IsPermutation}
use Rattle.std.proofs.lemmas.Map.Keys.{IsDistinct-IsPermutation, IsDistinct-tail}
use Rattle.wk_text_rules.specs.Titles.{PageTitle, title_eq}
use Rattle.wk_page_rules.specs.declared.Reach.{Reach}
use Rattle.wk_page_rules.specs.PageRows.{PageRows}
use Rattle.wk_wiki_rules.specs.Jobs.{RefreshEntry, FanEntry, JobLists, no_jobs, is_queued, has_refresh, has_fan, first_claimed, jobs_of, jobs_of_others, queued_again, set_anew, with_first_cursor, refresh_queued, claimed_by, given_back, refresh_dropped, fan_set, fan_moved, fan_dropped, pages_of, titles_of, numbers_of, IsOneAPage, IsOneATitle, IsNumbered}
use Rattle.wk_wiki_rules.specs.Steps.{placed, by_number, all_queued, after_save, after_serving, cursor_behind, next_served, next_above, reopened_jobs}
use Rattle.wk_wiki_rules.proofs.Lists.{eqb_flips, IsDistinct-push, IsDistinct-filter, list_any-map, map-map}

-- ---- orders

-- the order of numbers only moves jobs
placed-permutes : {Job : Type 0} (number : Job → ℕ) (jobs : List Job) (new : Job) → IsPermutation (new ∷ jobs) (placed number jobs new)
placed-permutes number [] new = IsPermutation-refl (new ∷ [])
placed-permutes number (job ∷ jobs) new =
    let behind = IsPermutation-trans (new ∷ job ∷ jobs) (job ∷ new ∷ jobs) (job ∷ placed number jobs new)
    (IsPermutation-append_left jobs (new ∷ job ∷ []) (job ∷ new ∷ []) (IsPermutation-append_comm (new ∷ []) (job ∷ [])))
    (IsPermutation-cons job (new ∷ jobs) (placed number jobs new) (placed-permutes number jobs new)) in
    elim (ltb (number new) (number job)) as (λ b. IsPermutation (new ∷ job ∷ jobs) (cond b (new ∷ job ∷ jobs) (job ∷ placed number jobs new))) [
      | true ↦ IsPermutation-refl (new ∷ job ∷ jobs)
      | false ↦ behind
    ]

all-placed-permutes : {Job : Type 0} (number : Job → ℕ) (before jobs : List Job) → IsPermutation (before ++ jobs) (fold (placed number) before jobs)
all-placed-permutes number before [] = rw append-nil (IsPermutation-refl before)
all-placed-permutes number before (job ∷ jobs) =
    IsPermutation-trans (before ++ job ∷ jobs) (job ∷ (before ++ jobs)) (fold (placed number) (placed number before job) jobs)
    (IsPermutation-middle before job jobs)
    (IsPermutation-trans (job ∷ (before ++ jobs)) (placed number before job ++ jobs) (fold (placed number) (placed number before job) jobs)
    (IsPermutation-append_left jobs (job ∷ before) (placed number before job) (placed-permutes number before job))
    (all-placed-permutes number (placed number before job) jobs))

pub by_number-permutes : {Job : Type 0} (number : Job → ℕ) (jobs : List Job) → IsPermutation jobs (by_number number jobs)
by_number-permutes number jobs = all-placed-permutes number [] jobs

-- ---- what is told by a job's number or page, and not by its ticket

module _ (f : RefreshEntry → ℕ) (same : (job : RefreshEntry) (ticket : Option ℕ) → f (record job { ticket = ticket }) ≡ f job) where
  map-first_claimed : (jobs : List RefreshEntry) (ticket : ℕ) → map f (first_claimed jobs ticket) ≡ map f jobs
  map-first_claimed [] ticket = refl
  map-first_claimed (job ∷ jobs) ticket =
      elim (is_queued job) as (λ b. map f (cond b (record job { ticket = Some ticket } ∷ jobs) (job ∷ first_claimed jobs ticket)) ≡ map f (job ∷ jobs)) [
        | true ↦ ap (λ n. n ∷ map f jobs) (same job (Some ticket))
        | false ↦ ap (λ ns. f job ∷ ns) (map-first_claimed jobs ticket)
      ]

  map-queued_again : (jobs : List RefreshEntry) → map f (map queued_again jobs) ≡ map f jobs
  map-queued_again jobs = map-map f queued_again f (λ job. same job None) jobs

  map-given_back : (jobs : List RefreshEntry) (page : ℕ) → IsPermutation (map f jobs) (map f (jobs_of_others page jobs ++ map queued_again (jobs_of page jobs)))
  map-given_back jobs page =
      rw (map-append f (jobs_of_others page jobs) (map queued_again (jobs_of page jobs)), map-queued_again (jobs_of page jobs), ← map-append f (jobs_of_others page jobs) (jobs_of page jobs))
      (IsPermutation-map f jobs (jobs_of_others page jobs ++ jobs_of page jobs)
      (IsPermutation-filter_both (λ job. not (eqb job.page page)) (λ job. eqb job.page page) (λ job. not-not (eqb job.page page)) jobs))
    where
      not-not : (b : Bool) → b ≡ not (not b)
      not-not true = refl
      not-not false = refl

  map-reopened : (jobs : List RefreshEntry) → IsPermutation (map f jobs) (map f (map queued_again (by_number (λ job. job.number) jobs)))
  map-reopened jobs =
      rw (map-queued_again (by_number (λ job. job.number) jobs))
      (IsPermutation-map f jobs (by_number (λ job. job.number) jobs) (by_number-permutes (λ job. job.number) jobs))

-- ---- one refresh job a page

distinct_moved : (xs ys : List ℕ) → IsPermutation xs ys → IsDistinct eqb xs → IsDistinct eqb ys
distinct_moved = IsDistinct-IsPermutation eqb eqb_flips

pub pages-claimed : (lists : JobLists) (ticket : ℕ) → pages_of (claimed_by lists ticket) ≡ pages_of lists
pages-claimed lists ticket = map-first_claimed (λ job. job.page) (λ job held. refl) lists.refreshes ticket

pub pages-given_back : (lists : JobLists) (page : ℕ) → IsPermutation (pages_of lists) (pages_of (given_back lists page))
pages-given_back lists page = map-given_back (λ job. job.page) (λ job held. refl) lists.refreshes page

pub pages-reopened : (lists : JobLists) → IsPermutation (pages_of lists) (pages_of (reopened_jobs lists))
pages-reopened lists = map-reopened (λ job. job.page) (λ job held. refl) lists.refreshes

pub pages-fan_set : (lists : JobLists) (title : PageTitle) (reach : Reach) → pages_of (fan_set lists title reach) ≡ pages_of lists
pages-fan_set lists title reach = elim (cases_Bool (has_fan lists title)) [ inl there ↦ rw there refl | inr none ↦ rw none refl ]

pub IsOneAPage-none : IsOneAPage no_jobs
unfolding IsDistinct
IsOneAPage-none = tt

pub IsOneAPage-claimed : (lists : JobLists) (ticket : ℕ) → IsOneAPage lists → IsOneAPage (claimed_by lists ticket)
IsOneAPage-claimed lists ticket one = rw (pages-claimed lists ticket) one

pub IsOneAPage-given_back : (lists : JobLists) (page : ℕ) → IsOneAPage lists → IsOneAPage (given_back lists page)
IsOneAPage-given_back lists page one = distinct_moved _ _ (pages-given_back lists page) one

pub IsOneAPage-reopened : (lists : JobLists) → IsOneAPage lists → IsOneAPage (reopened_jobs lists)
IsOneAPage-reopened lists one = distinct_moved _ _ (pages-reopened lists) one

pub IsOneAPage-dropped : (lists : JobLists) (page : ℕ) → IsOneAPage lists → IsOneAPage (refresh_dropped lists page)
IsOneAPage-dropped lists page one = IsDistinct-filter eqb (λ job. job.page) (λ job. not (eqb job.page page)) lists.refreshes one

pub pages-queued : (lists : JobLists) (page : ℕ) → has_refresh lists page ≡ false → pages_of (refresh_queued lists page) ≡ pages_of lists ++ page ∷ []
pages-queued lists page none = rw none (map-append (λ job. job.page) lists.refreshes (record { number = lists.next; page = page; ticket = None } ∷ []))

pub IsOneAPage-queued : (lists : JobLists) (page : ℕ) → IsOneAPage lists → IsOneAPage (refresh_queued lists page)
IsOneAPage-queued lists page one = elim (cases_Bool (has_refresh lists page)) [
  | inl there ↦ rw there one
  | inr none ↦ rw (pages-queued lists page none)
      (IsDistinct-push eqb (pages_of lists) page one (list_any-map (λ n. eqb n page) (λ job. job.page) lists.refreshes ∙ none))
]

pub IsOneAPage-fan_set : (lists : JobLists) (title : PageTitle) (reach : Reach) → IsOneAPage lists → IsOneAPage (fan_set lists title reach)
IsOneAPage-fan_set lists title reach one = rw (pages-fan_set lists title reach) one

pub IsOneAPage-saved : (stored : List PageRows) (lists : JobLists) (page : ℕ) (title : PageTitle) (reach : Reach) → IsOneAPage lists → IsOneAPage (after_save stored lists page title reach)
IsOneAPage-saved stored lists page title reach one =
    let queued = IsOneAPage-queued lists page one in
    cond_both _ _ _ IsOneAPage (λ named. IsOneAPage-fan_set (refresh_queued lists page) title reach queued) (λ nobody. queued)

pub IsOneAPage-all_queued : (lists : JobLists) (pages : List ℕ) → IsOneAPage lists → IsOneAPage (all_queued lists pages)
IsOneAPage-all_queued lists [] one = one
IsOneAPage-all_queued lists (page ∷ pages) one = IsOneAPage-all_queued (refresh_queued lists page) pages (IsOneAPage-queued lists page one)

pub IsOneAPage-served : (stored : List PageRows) (most : ℕ) (lists : JobLists) (fan : FanEntry) → IsOneAPage lists → IsOneAPage (after_serving stored most lists fan)
IsOneAPage-served stored most lists fan one =
    let served = IsOneAPage-all_queued lists (next_served stored most fan) one in
    cond_both _ _ _ IsOneAPage (λ nobody. served) (λ others. served)

-- ---- one fan job a title

map-set_anew : {X : Type 0} (f : FanEntry → X) (title : PageTitle) (reach : Reach) → ((job : FanEntry) → f (set_anew title reach job) ≡ f job) → (jobs : List FanEntry) → map f (map (set_anew title reach) jobs) ≡ map f jobs
map-set_anew f title reach same jobs = map-map f (set_anew title reach) f same jobs

title-set_anew : (title : PageTitle) (reach : Reach) (job : FanEntry) → (set_anew title reach job).title ≡ job.title
title-set_anew title reach job = cond_both (title_eq job.title title) _ _ (λ (set : FanEntry). set.title ≡ job.title) (λ same. refl) (λ other. refl)

number-set_anew : (title : PageTitle) (reach : Reach) (job : FanEntry) → (set_anew title reach job).number ≡ job.number
number-set_anew title reach job = cond_both (title_eq job.title title) _ _ (λ (set : FanEntry). set.number ≡ job.number) (λ same. refl) (λ other. refl)

pub titles-queued : (lists : JobLists) (page : ℕ) → titles_of (refresh_queued lists page) ≡ titles_of lists
titles-queued lists page = elim (cases_Bool (has_refresh lists page)) [ inl there ↦ rw there refl | inr none ↦ rw none refl ]

pub titles-all_queued : (lists : JobLists) (pages : List ℕ) → titles_of (all_queued lists pages) ≡ titles_of lists
titles-all_queued lists [] = refl
titles-all_queued lists (page ∷ pages) = titles-all_queued (refresh_queued lists page) pages ∙ titles-queued lists page

pub IsOneATitle-none : IsOneATitle no_jobs
unfolding IsDistinct
IsOneATitle-none = tt

pub IsOneATitle-set : (lists : JobLists) (title : PageTitle) (reach : Reach) → IsOneATitle lists → IsOneATitle (fan_set lists title reach)
IsOneATitle-set lists title reach one = elim (cases_Bool (has_fan lists title)) [
  | inl there ↦ rw (there, map-set_anew (λ job. job.title) title reach (title-set_anew title reach) lists.fans) one
  | inr none ↦ rw (none, map-append (λ job. job.title) lists.fans (record { number = lists.next; title = title; reach = reach; cursor = 0 } ∷ []))
      (IsDistinct-push title_eq (titles_of lists) title one (list_any-map (λ other. title_eq other title) (λ job. job.title) lists.fans ∙ none))
]

pub IsOneATitle-moved : (lists : JobLists) (cursor : ℕ) → IsOneATitle lists → IsOneATitle (fan_moved lists cursor)
IsOneATitle-moved lists cursor one = rw (moved lists.fans) one
  where
    moved : (jobs : List FanEntry) → map (λ job. job.title) (with_first_cursor jobs cursor) ≡ map (λ job. job.title) jobs
    moved [] = refl
    moved (job ∷ jobs) = refl

pub IsOneATitle-dropped : (lists : JobLists) → IsOneATitle lists → IsOneATitle (fan_dropped lists)
IsOneATitle-dropped lists one = behind lists.fans one
  where
    behind : (jobs : List FanEntry) → IsDistinct title_eq (map (λ job. job.title) jobs) → IsDistinct title_eq (map (λ job. job.title) (drop 1 jobs))
    behind [] apart = apart
    behind (job ∷ jobs) apart = IsDistinct-tail title_eq job.title (map (λ other. other.title) jobs) apart

pub IsOneATitle-saved : (stored : List PageRows) (lists : JobLists) (page : ℕ) (title : PageTitle) (reach : Reach) → IsOneATitle lists → IsOneATitle (after_save stored lists page title reach)
IsOneATitle-saved stored lists page title reach one =
    let queued : IsOneATitle (refresh_queued lists page) = rw (titles-queued lists page) one in
    cond_both _ _ _ IsOneATitle (λ named. IsOneATitle-set (refresh_queued lists page) title reach queued) (λ nobody. queued)

pub IsOneATitle-served : (stored : List PageRows) (most : ℕ) (lists : JobLists) (fan : FanEntry) → IsOneATitle lists → IsOneATitle (after_serving stored most lists fan)
IsOneATitle-served stored most lists fan one =
    let pages = next_served stored most fan in
    let served : IsOneATitle (all_queued lists pages) = rw (titles-all_queued lists pages) one in
    let cursor = cursor_behind pages fan.cursor in
    cond_both _ _ _ IsOneATitle (λ nobody. IsOneATitle-dropped (all_queued lists pages) served) (λ others. IsOneATitle-moved (all_queued lists pages) cursor served)

-- ---- which pages have a refresh job

has_refresh-is : (lists : JobLists) (page : ℕ) → list_any (λ n. eqb n page) (pages_of lists) ≡ has_refresh lists page
has_refresh-is lists page = list_any-map (λ n. eqb n page) (λ job. job.page) lists.refreshes

same_pages : (before after : JobLists) (page : ℕ) → IsPermutation (pages_of before) (pages_of after) → has_refresh after page ≡ has_refresh before page
same_pages before after page moved =
    sym (has_refresh-is after page) ∙ (sym (list_any-IsPermutation (λ n. eqb n page) (pages_of before) (pages_of after) moved) ∙ has_refresh-is before page)

pub has_refresh-claimed : (lists : JobLists) (ticket page : ℕ) → has_refresh (claimed_by lists ticket) page ≡ has_refresh lists page
has_refresh-claimed lists ticket page = same_pages lists (claimed_by lists ticket) page (rw (pages-claimed lists ticket) (IsPermutation-refl (pages_of lists)))

pub has_refresh-given_back : (lists : JobLists) (whose page : ℕ) → has_refresh (given_back lists whose) page ≡ has_refresh lists page
has_refresh-given_back lists whose page = same_pages lists (given_back lists whose) page (pages-given_back lists whose)

pub has_refresh-reopened : (lists : JobLists) (page : ℕ) → has_refresh (reopened_jobs lists) page ≡ has_refresh lists page
has_refresh-reopened lists page = same_pages lists (reopened_jobs lists) page (pages-reopened lists)

pub has_refresh-queued : (lists : JobLists) (whose page : ℕ) → has_refresh (refresh_queued lists whose) page ≡ (has_refresh lists page || eqb whose page)
has_refresh-queued lists whose page = elim (cases_Bool (has_refresh lists whose)) [
  | inl there ↦ rw there (elim (cases_Bool (eqb whose page)) [
    | inl same ↦ (ap (has_refresh lists) (sym (eqb-true whose page same)) ∙ there) ∙ sym (or_right (has_refresh lists page) (eqb whose page) same)
    | inr other ↦ rw other (sym (or_false (has_refresh lists page)))
  ])
  | inr none ↦ rw none (list_any-append (λ job. eqb job.page page) lists.refreshes (record { number = lists.next; page = whose; ticket = None } ∷ []) ∙ ap (λ b. has_refresh lists page || b) (or_false (eqb whose page)))
]
  where
    or_false : (b : Bool) → (b || false) ≡ b
    or_false true = refl
    or_false false = refl

pub has_refresh-dropped : (lists : JobLists) (whose page : ℕ) → has_refresh (refresh_dropped lists whose) page ≡ (has_refresh lists page && not (eqb page whose))
has_refresh-dropped lists whose page = kept lists.refreshes
  where
    is_page : RefreshEntry → Bool
    is_page job = eqb job.page page

    kept : (jobs : List RefreshEntry) → list_any (λ job. eqb job.page page) (jobs_of_others whose jobs) ≡ (list_any (λ job. eqb job.page page) jobs && not (eqb page whose))
    kept [] = refl
    kept (job ∷ jobs) = elim (cases_Bool (eqb job.page whose)) [
      | inl gone ↦ rw (gone, kept jobs) (elim (cases_Bool (eqb job.page page)) [
        | inl same ↦ let of_page : eqb page whose ≡ true = subst (λ n. eqb n whose ≡ true) (eqb-true job.page page same) gone in
            rw (same, of_page) (and_right (list_any (λ other. eqb other.page page) jobs) false refl)
        | inr other ↦ rw other refl
      ])
      | inr stays ↦ rw (stays, kept jobs) (elim (cases_Bool (eqb job.page page)) [
        | inl same ↦ let of_other : eqb page whose ≡ false = subst (λ n. eqb n whose ≡ false) (eqb-true job.page page same) stays in
            rw (same, of_other) refl
        | inr other ↦ rw other refl
      ])
    ]

-- ---- numbers

-- the numbers are only moved, and the next number stays
numbered_moved : (before after : JobLists) → IsPermutation (numbers_of before) (numbers_of after) → after.next ≡ before.next → IsNumbered before → IsNumbered after
numbered_moved before after moved same numbered = record {
  own = distinct_moved (numbers_of before) (numbers_of after) moved numbered.own;
  bounded = rw same (All-permutation (λ number. (1 ≤ number) × (number < before.next)) (numbers_of before) (numbers_of after) moved numbered.bounded);
  positive = rw same numbered.positive;
}

-- a new job has the next number
numbered_more : (before after : JobLists) → IsPermutation (numbers_of before ++ before.next ∷ []) (numbers_of after) → after.next ≡ before.next + 1 → IsNumbered before → IsNumbered after
numbered_more before after moved more numbered =
    let all = numbers_of before in
    let fresh : list_any (λ number. eqb number before.next) all ≡ false =
    list_any_none (λ number. eqb number before.next) all (λ k d within. ne_eqb (get_or all k d) before.next (λ same. let bound : get_or all k d < before.next = (numbered.bounded k d within).1 in absurd (omega arith))) in
    let room : All (λ number. (1 ≤ number) × (number < before.next + 1)) (all ++ before.next ∷ []) =
    All-push (λ number. (1 ≤ number) × (number < before.next + 1)) all before.next
    (All-weaker (λ number. (1 ≤ number) × (number < before.next)) (λ number. (1 ≤ number) × (number < before.next + 1)) (λ number bounds. (bounds.0, omega (arith, bounds.1))) all numbered.bounded)
    (numbered.positive, omega arith) in
    record {
      own = distinct_moved (all ++ before.next ∷ []) (numbers_of after) moved (IsDistinct-push eqb all before.next numbered.own fresh);
      bounded = rw more (All-permutation (λ number. (1 ≤ number) × (number < before.next + 1)) (all ++ before.next ∷ []) (numbers_of after) moved room);
      positive = rw more (omega (arith, numbered.positive));
    }

distinct_behind : (gone rest : List ℕ) → IsDistinct eqb (gone ++ rest) → IsDistinct eqb rest
distinct_behind [] rest apart = apart
distinct_behind (n ∷ gone) rest apart = distinct_behind gone rest (IsDistinct-tail eqb n (gone ++ rest) apart)

all_behind : (P : ℕ → Type 0) (gone rest : List ℕ) → All P (gone ++ rest) → All P rest
all_behind P [] rest all = all
all_behind P (n ∷ gone) rest all = all_behind P gone rest (All-tail P n (gone ++ rest) all)

-- some jobs go
numbered_less : (before after : JobLists) (gone : List ℕ) → IsPermutation (numbers_of before) (gone ++ numbers_of after) → after.next ≡ before.next → IsNumbered before → IsNumbered after
numbered_less before after gone moved same numbered =
    let P = λ (number : ℕ). (1 ≤ number) × (number < before.next) in
    record {
      own = distinct_behind gone (numbers_of after) (distinct_moved (numbers_of before) (gone ++ numbers_of after) moved numbered.own);
      bounded = rw same (all_behind P gone (numbers_of after) (All-permutation P (numbers_of before) (gone ++ numbers_of after) moved numbered.bounded));
      positive = rw same numbered.positive;
    }

pub IsNumbered-none : IsNumbered no_jobs
unfolding IsDistinct
IsNumbered-none = record { own = tt; bounded = All-nil (λ number. (1 ≤ number) × (number < 1)); positive = omega arith }

pub IsNumbered-claimed : (lists : JobLists) (ticket : ℕ) → IsNumbered lists → IsNumbered (claimed_by lists ticket)
IsNumbered-claimed lists ticket numbered =
    numbered_moved lists (claimed_by lists ticket)
    (rw (map-first_claimed (λ job. job.number) (λ job held. refl) lists.refreshes ticket) (IsPermutation-refl (numbers_of lists))) refl numbered

pub IsNumbered-given_back : (lists : JobLists) (page : ℕ) → IsNumbered lists → IsNumbered (given_back lists page)
IsNumbered-given_back lists page numbered =
    numbered_moved lists (given_back lists page)
    (IsPermutation-append_left (map (λ job. job.number) lists.fans) (map (λ job. job.number) lists.refreshes) (map (λ job. job.number) (given_back lists page).refreshes)
    (map-given_back (λ job. job.number) (λ job held. refl) lists.refreshes page)) refl numbered

pub IsNumbered-dropped : (lists : JobLists) (page : ℕ) → IsNumbered lists → IsNumbered (refresh_dropped lists page)
IsNumbered-dropped lists page numbered =
    let gone = map (λ (job : RefreshEntry). job.number) (jobs_of page lists.refreshes) in
    let stays = map (λ (job : RefreshEntry). job.number) (jobs_of_others page lists.refreshes) in
    let fans = map (λ (job : FanEntry). job.number) lists.fans in
    let parted : IsPermutation (map (λ (job : RefreshEntry). job.number) lists.refreshes) (gone ++ stays) =
    rw (← map-append (λ (job : RefreshEntry). job.number) (jobs_of page lists.refreshes) (jobs_of_others page lists.refreshes))
    (IsPermutation-map (λ (job : RefreshEntry). job.number) lists.refreshes (jobs_of page lists.refreshes ++ jobs_of_others page lists.refreshes)
    (IsPermutation-filter_both (λ job. eqb job.page page) (λ job. not (eqb job.page page)) (λ job. refl) lists.refreshes)) in
    numbered_less lists (refresh_dropped lists page) gone
    (rw (← append_assoc gone stays fans) (IsPermutation-append_left fans (map (λ job. job.number) lists.refreshes) (gone ++ stays) parted)) refl numbered

pub IsNumbered-queued : (lists : JobLists) (page : ℕ) → IsNumbered lists → IsNumbered (refresh_queued lists page)
IsNumbered-queued lists page numbered = elim (cases_Bool (has_refresh lists page)) [
  | inl there ↦ rw there numbered
  | inr none ↦ rw none (numbered_more lists (record lists { refreshes = lists.refreshes ++ record { number = lists.next; page = page; ticket = None } ∷ []; next = lists.next + 1 }) moved refl numbered)
]
  where
    refreshes : List ℕ
    refreshes = map (λ job. job.number) lists.refreshes

    fans : List ℕ
    fans = map (λ job. job.number) lists.fans

    moved : IsPermutation ((map (λ job. job.number) lists.refreshes ++ map (λ job. job.number) lists.fans) ++ lists.next ∷ [])
        (map (λ job. job.number) (lists.refreshes ++ record { number = lists.next; page = page; ticket = None } ∷ []) ++ map (λ job. job.number) lists.fans)
    moved = rw (map-append (λ job. job.number) lists.refreshes (record { number = lists.next; page = page; ticket = None } ∷ []), append_assoc, append_assoc)
        (IsPermutation-append_right (map (λ job. job.number) lists.refreshes) (map (λ job. job.number) lists.fans ++ lists.next ∷ []) (lists.next ∷ map (λ job. job.number) lists.fans)
        (IsPermutation-to_front (map (λ job. job.number) lists.fans) lists.next))

pub IsNumbered-fan_set : (lists : JobLists) (title : PageTitle) (reach : Reach) → IsNumbered lists → IsNumbered (fan_set lists title reach)
IsNumbered-fan_set lists title reach numbered = elim (cases_Bool (has_fan lists title)) [
  | inl there ↦ rw there (numbered_moved lists (record lists { fans = map (set_anew title reach) lists.fans })
      (rw (map-set_anew (λ job. job.number) title reach (number-set_anew title reach) lists.fans) (IsPermutation-refl (numbers_of lists))) refl numbered)
  | inr none ↦ rw none (numbered_more lists (record lists { fans = lists.fans ++ record { number = lists.next; title = title; reach = reach; cursor = 0 } ∷ []; next = lists.next + 1 })
      (rw (map-append (λ job. job.number) lists.fans (record { number = lists.next; title = title; reach = reach; cursor = 0 } ∷ []), ← append_assoc (map (λ job. job.number) lists.refreshes) (map (λ job. job.number) lists.fans) (lists.next ∷ []))
      (IsPermutation-refl (numbers_of lists ++ lists.next ∷ []))) refl numbered)
]

pub IsNumbered-moved : (lists : JobLists) (cursor : ℕ) → IsNumbered lists → IsNumbered (fan_moved lists cursor)
IsNumbered-moved lists cursor numbered =
    numbered_moved lists (fan_moved lists cursor) (rw (moved lists.fans) (IsPermutation-refl (numbers_of lists))) refl numbered
  where
    moved : (jobs : List FanEntry) → map (λ job. job.number) (with_first_cursor jobs cursor) ≡ map (λ job. job.number) jobs
    moved [] = refl
    moved (job ∷ jobs) = refl

abbrev first_number : List FanEntry → List ℕ
first_number [] = []
first_number (job ∷ jobs) = job.number ∷ []

pub IsNumbered-fan_dropped : (lists : JobLists) → IsNumbered lists → IsNumbered (fan_dropped lists)
IsNumbered-fan_dropped lists numbered = numbered_less lists (fan_dropped lists) (first_number lists.fans) (parted lists.fans) refl numbered
  where
    parted : (jobs : List FanEntry) → IsPermutation (map (λ job. job.number) lists.refreshes ++ map (λ job. job.number) jobs)
        (first_number jobs ++ (map (λ job. job.number) lists.refreshes ++ map (λ job. job.number) (drop 1 jobs)))
    parted [] = IsPermutation-refl (map (λ job. job.number) lists.refreshes ++ [])
    parted (job ∷ jobs) = IsPermutation-middle (map (λ job. job.number) lists.refreshes) job.number (map (λ job. job.number) jobs)

pub IsNumbered-saved : (stored : List PageRows) (lists : JobLists) (page : ℕ) (title : PageTitle) (reach : Reach) → IsNumbered lists → IsNumbered (after_save stored lists page title reach)
IsNumbered-saved stored lists page title reach numbered =
    let queued = IsNumbered-queued lists page numbered in
    cond_both _ _ _ (λ (after : JobLists). IsNumbered after) (λ named. IsNumbered-fan_set (refresh_queued lists page) title reach queued) (λ nobody. queued)

IsNumbered-all_queued : (lists : JobLists) (pages : List ℕ) → IsNumbered lists → IsNumbered (all_queued lists pages)
IsNumbered-all_queued lists [] numbered = numbered
IsNumbered-all_queued lists (page ∷ pages) numbered = IsNumbered-all_queued (refresh_queued lists page) pages (IsNumbered-queued lists page numbered)

pub IsNumbered-served : (stored : List PageRows) (most : ℕ) (lists : JobLists) (fan : FanEntry) → IsNumbered lists → IsNumbered (after_serving stored most lists fan)
IsNumbered-served stored most lists fan numbered =
    let pages = next_served stored most fan in
    let served = IsNumbered-all_queued lists pages numbered in
    let cursor = cursor_behind pages fan.cursor in
    cond_both _ _ _ (λ (after : JobLists). IsNumbered after) (λ nobody. IsNumbered-fan_dropped (all_queued lists pages) served) (λ others. IsNumbered-moved (all_queued lists pages) cursor served)

-- the greatest number is at least where it began, and at least each number
greatest_from : (start : ℕ) (numbers : List ℕ) → start ≤ fold max start numbers
greatest_from start [] = omega arith
greatest_from start (n ∷ numbers) = omega (arith, greatest_from (max start n) numbers)

greatest_above : (start : ℕ) (numbers : List ℕ) → AllByRecursion (λ number. number ≤ fold max start numbers) numbers
greatest_above start [] = tt
greatest_above start (n ∷ numbers) = (omega (arith, greatest_from (max start n) numbers), greatest_above (max start n) numbers)

both_hold : (P Q : ℕ → Type 0) (numbers : List ℕ) → All P numbers → All Q numbers → All (λ number. P number × Q number) numbers
both_hold P Q numbers ps qs = λ k d within. (ps k d within, qs k d within)

pub IsNumbered-reopened : (lists : JobLists) → IsNumbered lists → IsNumbered (reopened_jobs lists)
IsNumbered-reopened lists numbered =
    let all = numbers_of lists in
    let next = next_above all in
    let P = λ (number : ℕ). (1 ≤ number) × (number < next) in
    let moved : IsPermutation all (numbers_of (reopened_jobs lists)) =
    IsPermutation-append_left (map (λ job. job.number) lists.fans) (map (λ job. job.number) lists.refreshes) (map (λ job. job.number) (reopened_jobs lists).refreshes)
    (map-reopened (λ job. job.number) (λ job held. refl) lists.refreshes) in
    let below : All (λ number. number ≤ fold max 0 all) all = All-from_recursion (λ number. number ≤ fold max 0 all) all (greatest_above 0 all) in
    let bounds : All P all = All-weaker (λ number. ((1 ≤ number) × (number < lists.next)) × (number ≤ fold max 0 all)) P
    (λ number both. (both.0.0, let under : number ≤ fold max 0 all = both.1 in omega arith)) all
    (both_hold (λ number. (1 ≤ number) × (number < lists.next)) (λ number. number ≤ fold max 0 all) all numbered.bounded below) in
    record {
      own = distinct_moved all (numbers_of (reopened_jobs lists)) moved numbered.own;
      bounded = All-permutation P all (numbers_of (reopened_jobs lists)) moved bounds;
      positive = omega arith;
    }
