-- What holds of a refresh that comes in.
use Rattle.std.proofs.Common.{◌≡◌, ℕ, zero, suc, ◌-◌, ◌≤◌, ◌<◌, eqb, Bool, true, false, cond, ◌&&◌, List, [], ◌∷◌, length, filter, not, Option, Some, None, refl, sym, ap, ◌∙◌, inl, inr, subst, arith}
use Rattle.std.specs.Prelude.{slice_get, slice_set, is_some, IfSome, IsSome, bytes_eq, option_map, find, map, unwrap_or}
use Rattle.std.specs.List.{All, AllByRecursion, list_any}
use Rattle.std.proofs.lemmas.Bool.{cases_Bool, eqb-true, or_left, or_right, and_from, and_parts}
use Rattle.std.proofs.lemmas.List.Elements.{All-from_recursion, recursion_from_All}
use Rattle.std.proofs.lemmas.List.Folds.{list_any-append}
use Rattle.std.proofs.lemmas.Slice.Eq.{bytes_eq-Decides}
use Rattle.wk_text_rules.specs.Titles.{PageTitle, title_eq}
use Rattle.wk_page_rules.specs.PageRows.{Member, PageRows, no_rows}
use Rattle.wk_view_laws.proofs.PlanLemmas.{title_eq-same}
use Rattle.wk_view_rules.specs.Rows.{rows}
use Rattle.wk_table_rules.specs.Changes.{TableEdit}
use Rattle.wk_wiki_rules.specs.Jobs.{JobLists, RefreshEntry, IsOneAPage, first_queued, has_claimed, has_refresh, is_claimed, is_queued, page_held_by, refresh_dropped}
use Rattle.wk_wiki_rules.specs.Steps.{fan_pages}
use Rattle.wk_wiki_rules.specs.States.{State, page_at, stored_at, title_at, world_of}
use Rattle.wk_wiki_rules.specs.Events.{Claim, Done, Back, with_jobs, with_refreshed}
use Rattle.wk_wiki_rules.specs.Tables.{tables_of}
use Rattle.wk_wiki_laws.specs.Kept.{IsKept}
use Rattle.wk_wiki_laws.specs.WellFormed.{IsWellFormed}
use Rattle.wk_page_rules.specs.History.{Page}
use Rattle.wk_wiki_laws.proofs.Refreshed.{held-within}
use Rattle.wk_wiki_rules.specs.TableChanges.{job_held_by, refresh_change, refresh_change_without_rows}
use Rattle.wk_wiki_laws.specs.Makes.{Makes}
use Rattle.wk_wiki_laws.proofs.ChangesMade.{back-step, claim-step, refresh-step, refresh-step-same}
use Rattle.wk_wiki_laws.proofs.TicketsOut.{held-job}
use Rattle.wk_life_laws.specs.Lives.{Life, IsLife, journal_of, start_of}
use Rattle.wk_life_laws.specs.Next.{IsNext}
use Rattle.wk_life_laws.proofs.RunFacts.{run_kept}
use Rattle.wk_wiki_laws.proofs.TwoHalves.{new-rows}
use Rattle.wk_wiki_rules.specs.Names.{admitted, joined, member_eq, AreAmong, with_rows_at}

-- ---- the old rows are among those of both

module _ {X : Type 0} (same : X → X → Bool) (reflects : (a : X) → same a a ≡ true) where
  old-among : (old all new : List X) → ((x : X) → list_any (same x) old ≡ true → list_any (same x) all ≡ true) → AllByRecursion (λ x. list_any (same x) (joined same all new) ≡ true) old
  old-among [] all new within = tt
  old-among (x ∷ old) all new within = (
    list_any-append (same x) all (filter (λ y. not (list_any (same y) all)) new)
        ∙ or_left (list_any (same x) all) (list_any (same x) (filter (λ y. not (list_any (same y) all)) new)) (within x (or_left (same x x) (list_any (same x) old) (reflects x))),
    old-among old all new (λ y there. within y (or_right (same y x) (list_any (same y) old) there)),
  )

  AllOld : (old new : List X) → All (λ x. list_any (same x) (joined same old new) ≡ true) old
  AllOld old new = All-from_recursion (λ x. list_any (same x) (joined same old new) ≡ true) old (old-among old old new (λ x there. there))

same-member : (a : Member) → member_eq a a ≡ true
same-member a =
    and_from (title_eq a.category a.category && bytes_eq a.sortkey a.sortkey) (bytes_eq a.prefix a.prefix)
    (and_from (title_eq a.category a.category) (bytes_eq a.sortkey a.sortkey) (title_eq-same a.category) ((bytes_eq-Decides a.sortkey a.sortkey).1 refl))
    ((bytes_eq-Decides a.prefix a.prefix).1 refl)

pub old-rows : (old new : PageRows) → AreAmong old (admitted old new)
old-rows old new = record {
  templates = AllOld title_eq title_eq-same old.templates new.templates;
  exists = AllOld title_eq title_eq-same old.exists new.exists;
  links = AllOld title_eq title_eq-same old.links new.links;
  members = AllOld member_eq same-member old.members new.members;
  redirect = kept old.redirect new.redirect;
}
  where
    kept : (o n : Option PageTitle) → IfSome o (λ title. is_some (cond (is_some n) n o) ≡ true)
    kept None n = tt
    kept (Some title) None = refl
    kept (Some title) (Some new) = refl

-- ---- rows of one page among all

get-set : {X : Type 0} (xs : List X) (k : ℕ) (old x : X) → slice_get xs k ≡ Some old → slice_get (slice_set xs k x) k ≡ Some x
get-set [] zero old x there = absurd (let e : None ≡ Some old = there in cc)
get-set [] (suc k) old x there = absurd (let e : None ≡ Some old = there in cc)
get-set (y ∷ xs) zero old x there = refl
get-set (y ∷ xs) (suc k) old x there = get-set xs k old x there

set-set-back : {X : Type 0} (xs : List X) (k : ℕ) (old x : X) → slice_get xs k ≡ Some old → slice_set (slice_set xs k x) k old ≡ xs
set-set-back [] zero old x there = refl
set-set-back [] (suc k) old x there = refl
set-set-back (y ∷ xs) zero old x there = let same : y ≡ old = (let e : Some y ≡ Some old = there in cc) in ap (λ z. z ∷ xs) (sym same)
set-set-back (y ∷ xs) (suc k) old x there = ap (λ zs. y ∷ zs) (set-set-back xs k old x there)

set-twice : {X : Type 0} (xs : List X) (k : ℕ) (x z : X) → slice_set (slice_set xs k x) k z ≡ slice_set xs k z
set-twice [] zero x z = refl
set-twice [] (suc k) x z = refl
set-twice (y ∷ xs) zero x z = refl
set-twice (y ∷ xs) (suc k) x z = ap (λ zs. y ∷ zs) (set-twice xs k x z)

set-same : {X : Type 0} (xs : List X) (k : ℕ) (x : X) → slice_get xs k ≡ Some x → slice_set xs k x ≡ xs
set-same [] zero x there = refl
set-same [] (suc k) x there = refl
set-same (y ∷ xs) zero x there = let same : y ≡ x = (let e : Some y ≡ Some x = there in cc) in ap (λ z. z ∷ xs) (sym same)
set-same (y ∷ xs) (suc k) x there = ap (λ zs. y ∷ zs) (set-same xs k x there)

-- the rows of the page with this number, where there is such a page
abbrev rows-at : List PageRows → ℕ → Option PageRows
rows-at stored page = cond (eqb page 0) None (slice_get stored (page - 1))

get-there : {X : Type 0} (xs : List X) (k : ℕ) → k < length xs → (x : X) × (slice_get xs k ≡ Some x)
get-there [] k within = absurd (omega (arith, within))
get-there (x ∷ xs) zero within = (x, refl)
get-there (x ∷ xs) (suc k) within = get-there xs k (omega (arith, within))

not-zero : (page : ℕ) → 1 ≤ page → eqb page 0 ≡ false
not-zero page some = elim (cases_Bool (eqb page 0)) [
  | inl zero_page ↦ absurd (let e = eqb-true page 0 zero_page in omega (arith, e, some))
  | inr other ↦ other
]

pub rows-there : (stored : List PageRows) (page : ℕ) → 1 ≤ page → page ≤ length stored → (rows : PageRows) × (rows-at stored page ≡ Some rows)
rows-there stored page some within =
    let at = get-there stored (page - 1) (omega (arith, some, within)) in
    (at.0, ap (λ b. cond b None (slice_get stored (page - 1))) (not-zero page some) ∙ at.1)

rows-get : (stored : List PageRows) (page : ℕ) (rows : PageRows) → rows-at stored page ≡ Some rows → slice_get stored (page - 1) ≡ Some rows
rows-get stored page rows there = elim (cases_Bool (eqb page 0)) [
  | inl zero_page ↦ absurd (let e : None ≡ Some rows = rw zero_page at there in cc)
  | inr other ↦ rw other at there
]

-- the rows that are stored of a page that is there
pub stored-there : (state : State) (page : ℕ) (rows : PageRows) → rows-at state.stored page ≡ Some rows → stored_at state page ≡ rows
stored-there state page rows there = elim (cases_Bool (eqb page 0)) [
  | inl zero_page ↦ absurd (let e : None ≡ Some rows = rw zero_page at there in cc)
  | inr other ↦
      ap (λ b. cond b no_rows (unwrap_or (slice_get state.stored (page - 1)) no_rows)) other
      ∙ ap (λ o. unwrap_or o no_rows) (rows-get state.stored page rows there)
]

-- between the halves of a change the page is there still, with the rows of both
pub rows-between : (stored : List PageRows) (page : ℕ) (old between : PageRows) → rows-at stored page ≡ Some old → rows-at (with_rows_at stored page between) page ≡ Some between
rows-between stored page old between there = elim (cases_Bool (eqb page 0)) [
  | inl zero_page ↦ absurd (let e : None ≡ Some old = rw zero_page at there in cc)
  | inr other ↦ ap (λ b. cond b None (slice_get (with_rows_at stored page between) (page - 1))) other ∙ get-set stored (page - 1) old between (rows-get stored page old there)
]

pub rows-back : (stored : List PageRows) (page : ℕ) (old between : PageRows) → rows-at stored page ≡ Some old → with_rows_at (with_rows_at stored page between) page old ≡ stored
rows-back stored page old between there = set-set-back stored (page - 1) old between (rows-get stored page old there)

pub rows-new : (stored : List PageRows) (page : ℕ) (between new : PageRows) → with_rows_at (with_rows_at stored page between) page new ≡ with_rows_at stored page new
rows-new stored page between new = set-twice stored (page - 1) between new

-- what set_rows asks and gives between the halves
abbrev rows-or-none : List PageRows → ℕ → PageRows
rows-or-none stored page = unwrap_or (rows-at stored page) no_rows

module _ (stored between-stored : List PageRows) (page : ℕ) (old added new : PageRows) (there : rows-at stored page ≡ Some old) (same : added ≡ new)
    (between : between-stored ≡ with_rows_at stored page (admitted (rows-or-none stored page) added)) where
  at-between : rows-at between-stored page ≡ Some (admitted (rows-or-none stored page) added)
  at-between = ap (λ s. rows-at s page) between ∙ rows-between stored page old (admitted (rows-or-none stored page) added) there

  pub between-there : IsSome (rows-at between-stored page)
  between-there = rw at-between refl

  pub between-new : AreAmong new (rows-or-none between-stored page)
  between-new =
      let now : rows-or-none between-stored page ≡ admitted (rows-or-none stored page) added = ap (λ o. unwrap_or o no_rows) at-between in
      subst (λ r. AreAmong new r) (sym now) (subst (λ r. AreAmong r (admitted (rows-or-none stored page) added)) same (new-rows (rows-or-none stored page) added))

  pub between-old : AreAmong old (rows-or-none between-stored page)
  between-old =
      let now : rows-or-none between-stored page ≡ admitted (rows-or-none stored page) added = ap (λ o. unwrap_or o no_rows) at-between in
      let was : rows-or-none stored page ≡ old = ap (λ o. unwrap_or o no_rows) there in
      subst (λ r. AreAmong old r) (sym now) (subst (λ r. AreAmong r (admitted (rows-or-none stored page) added)) was (old-rows (rows-or-none stored page) added))

abbrev pub with-stored : State → List PageRows → State
with-stored state stored = record state { stored = stored }

pub written-rows : (start middle last : State) (page : ℕ) (between new : PageRows) → middle ≡ with-stored start (with_rows_at start.stored page between) → last ≡ with-stored middle (with_rows_at middle.stored page new)
    → last ≡ with-stored start (with_rows_at start.stored page new)
written-rows start middle last page between new first second =
    second ∙ (ap (λ (s : State). with-stored s (with_rows_at s.stored page new)) first ∙ ap (with-stored start) (rows-new start.stored page between new))

pub refused-rows : (start middle last : State) (page : ℕ) (between old : PageRows) → rows-at start.stored page ≡ Some old → middle ≡ with-stored start (with_rows_at start.stored page between)
    → last ≡ with-stored middle (with_rows_at middle.stored page old) → last ≡ start
refused-rows start middle last page between old there first second =
    second ∙ (ap (λ (s : State). with-stored s (with_rows_at s.stored page old)) first ∙ ap (with-stored start) (rows-back start.stored page old between there))

-- ---- a refresh that is done

module _ (life : Life) (is : IsLife life) (ticket page : ℕ) (holds : page_held_by life.state.jobs ticket ≡ Some page) where
  kept-now : IsKept life.state
  kept-now = run_kept (start_of life) (journal_of life) life.state is.run

  pub page-within : (1 ≤ page) × (page ≤ length life.state.stored)
  page-within = held-within life.state ticket page kept-now.formed holds

  pub page-there : (rows : PageRows) × (rows-at life.state.stored page ≡ Some rows)
  page-there = rows-there life.state.stored page page-within.0 page-within.1

  pub one-a-page : IsOneAPage life.state.jobs
  one-a-page = kept-now.one_page

  pub job-there : (job : RefreshEntry) × ((job_held_by life.state.jobs ticket ≡ Some job) × (job.page ≡ page))
  job-there = held-job life.state.jobs ticket page holds

  -- where the page has its rows already, the job alone goes
  pub refreshed-same : stored_at life.state page ≡ rows (world_of life.state) (title_at life.state.history page) → with_jobs life.state (refresh_dropped life.state.jobs page) ≡ with_refreshed life.state page
  refreshed-same current =
      let there = rows-get life.state.stored page page-there.0 page-there.1 in
      let at : stored_at life.state page ≡ page-there.0 = stored-there life.state page page-there.0 page-there.1 in
      let same : page-there.0 ≡ rows (world_of life.state) (title_at life.state.history page) = sym at ∙ current in
      let set = set-same life.state.stored (page - 1) (rows (world_of life.state) (title_at life.state.history page)) (there ∙ ap (λ r. Some r) same) in
      ap (λ stored. let next : State = record { history = life.state.history; stored = stored; jobs = refresh_dropped life.state.jobs page } in next) (sym set)

  pub done-changes : (next : Life) (change : List TableEdit) → IsNext life (Done ticket) next
      → ((job : RefreshEntry) → job_held_by life.state.jobs ticket ≡ Some job → job.page ≡ page → change ≡ refresh_change job (rows (world_of life.state) (title_at life.state.history page)))
      → Makes (tables_of life.state) change (tables_of next.state)
  done-changes next change made is_change =
      let job = job-there in
      let same : rows (world_of life.state) (title_at life.state.history page) ≡ rows (world_of life.state) (title_at life.state.history job.0.page) =
      ap (λ p. rows (world_of life.state) (title_at life.state.history p)) (sym job.1.1) in
      let changed = is_change job.0 job.1.0 job.1.1 ∙ ap (refresh_change job.0) same in
      subst (λ c. Makes (tables_of life.state) c (tables_of next.state)) (sym changed)
      (refresh-step fan_pages life.state next.state (length (journal_of life)) ticket job.0 kept-now job.1.0 made.done)

  pub done-changes-job : (next : Life) (change : List TableEdit) → IsNext life (Done ticket) next
      → ((job : RefreshEntry) → job_held_by life.state.jobs ticket ≡ Some job → job.page ≡ page → change ≡ refresh_change_without_rows job)
      → stored_at life.state page ≡ rows (world_of life.state) (title_at life.state.history page)
      → Makes (tables_of life.state) change (tables_of next.state)
  done-changes-job next change made is_change current =
      let job = job-there in
      let stored : stored_at life.state job.0.page ≡ rows (world_of life.state) (title_at life.state.history job.0.page) =
      subst (λ p. stored_at life.state p ≡ rows (world_of life.state) (title_at life.state.history p)) (sym job.1.1) current in
      subst (λ c. Makes (tables_of life.state) c (tables_of next.state)) (sym (is_change job.0 job.1.0 job.1.1))
      (refresh-step-same fan_pages life.state next.state (length (journal_of life)) ticket job.0 kept-now job.1.0 made.done stored)

  pub back-tables : (next : Life) → IsNext life (Back ticket) next → tables_of next.state ≡ tables_of life.state
  back-tables next made = back-step fan_pages life.state next.state (length (journal_of life)) ticket kept-now made.done

-- a claim changes no table
pub claim-tables : (life next : Life) → IsNext life Claim next → tables_of next.state ≡ tables_of life.state
claim-tables life next made = claim-step fan_pages life.state next.state (length (journal_of life)) made.done

-- ---- the page of a job

any-first : (p q : RefreshEntry → Bool) (jobs : List RefreshEntry) → list_any (λ job. p job && q job) jobs ≡ true → list_any p jobs ≡ true
any-first p q [] there = there
any-first p q (job ∷ jobs) there = elim (cases_Bool (p job && q job)) [
  | inl both ↦ or_left (p job) (list_any p jobs) (and_parts (p job) (q job) both).0
  | inr not_both ↦ or_right (p job) (list_any p jobs) (any-first p q jobs (rw not_both at there))
]

pub claimed-there : (lists : JobLists) (page : ℕ) → has_claimed lists page ≡ true → has_refresh lists page ≡ true
claimed-there lists page claimed = any-first (λ (job : RefreshEntry). eqb job.page page) is_claimed lists.refreshes claimed

found-page : (P : ℕ → Type 0) (p : RefreshEntry → Bool) (jobs : List RefreshEntry) (job : RefreshEntry) → find p jobs ≡ Some job → AllByRecursion P (map (λ (j : RefreshEntry). j.page) jobs) → P job.page
found-page P p [] job none all = absurd (let e : None ≡ Some job = none in cc)
found-page P p (j ∷ jobs) job found all = elim (cases_Bool (p j)) [
  | inl fits ↦ let same : Some j ≡ Some job = rw fits at found in let here : j ≡ job = cc in subst (λ (x : RefreshEntry). P x.page) here all.0
  | inr fails ↦ found-page P p jobs job (rw fails at found) all.1
]

-- the page of the first queued job is there
pub first-page : (life : Life) → IsLife life → (page : ℕ) → first_queued life.state.jobs ≡ Some page → (at : Page) × (page_at life.state.history page ≡ Some at)
first-page life is page first = by (find is_queued life.state.jobs.refreshes) refl first
  where
    formed : IsWellFormed life.state
    formed = (run_kept (start_of life) (journal_of life) life.state is.run).formed

    by : (o : Option RefreshEntry) → find is_queued life.state.jobs.refreshes ≡ o → option_map (λ (job : RefreshEntry). job.page) o ≡ Some page → (at : Page) × (page_at life.state.history page ≡ Some at)
    by None none is_page = absurd (let e : None ≡ Some page = is_page in cc)
    by (Some job) found is_page =
        let same : job.page ≡ page = (let e : Some job.page ≡ Some page = is_page in cc) in
        let within = found-page (λ p. (1 ≤ p) × (p ≤ length life.state.history.pages)) is_queued life.state.jobs.refreshes job found (recursion_from_All (λ p. (1 ≤ p) × (p ≤ length life.state.history.pages)) (map (λ (j : RefreshEntry). j.page) life.state.jobs.refreshes) formed.jobs) in
        let some = within.0 in
        let few = within.1 in
        let at = get-there life.state.history.pages (page - 1) (omega (arith, some, few, same)) in
        (at.0, ap (λ b. cond b None (slice_get life.state.history.pages (page - 1))) (not-zero page (omega (arith, some, same))) ∙ at.1)

-- the page of a job that is held is there
pub held-page : (life : Life) → IsLife life → (ticket page : ℕ) → page_held_by life.state.jobs ticket ≡ Some page → (at : Page) × (page_at life.state.history page ≡ Some at)
held-page life is ticket page holds =
    let formed = (run_kept (start_of life) (journal_of life) life.state is.run).formed in
    let within = page-within life is ticket page holds in
    let some = within.0 in
    let few = within.1 in
    let as_many = formed.stored in
    let at = get-there life.state.history.pages (page - 1) (omega (arith, some, few, as_many)) in
    (at.0, ap (λ b. cond b None (slice_get life.state.history.pages (page - 1))) (not-zero page some) ∙ at.1)
