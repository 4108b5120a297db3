-- The change of each event fits the tables of a state, and makes them those of the state behind it.
use Rattle.std.proofs.Common.{◌≡◌, ℕ, zero, suc, ◌+◌, ◌-◌, ◌≤◌, ◌<◌, Bool, true, false, cond, eqb, ltb, ◌&&◌, ◌||◌, List, [], ◌∷◌, ◌++◌, length, map, set, unwrap_or, Option, Some, None, refl, sym, ap, ap₂, ◌∙◌, inl, inr, subst, arith}
use Rattle.std.specs.Prelude.{slice_get, option_map, find, is_some}
use Rattle.std.specs.List.{AllByRecursion, IsDistinct, enumerate_from, list_all, list_any, position_or_len}
use Rattle.std.specs.Option.{option_to_list}
use Rattle.std.proofs.Math.Numerals.{one-add}
use Rattle.std.proofs.lemmas.Bool.{cases_Bool, cond_both, and_from, or_left, or_right, ne_eqb, ltb-true, lt-ltb}
use Rattle.std.proofs.lemmas.List.Elements.{recursion_from_All}
use Rattle.wk_text_rules.specs.Titles.{PageTitle, title_eq}
use Rattle.wk_page_rules.specs.History.{History, Page, current_revision, next_revision, page_exists, page_number, page_to_save, saved}
use Rattle.wk_page_rules.specs.PageRows.{PageRows, no_rows}
use Rattle.wk_table_rules.specs.Rows.{StoreTables, PageColumns, RevisionColumns, LinkColumns, CategoryColumns, RedirectColumns, JobColumns, newest_version}
use Rattle.wk_table_rules.specs.Changes.{add_revision, set_page, set_rows, drop_job, edited, edit_fits, has_page, namespace_of, link_row, category_row, redirect_row, with_page, with_rows_of}
use Rattle.wk_wiki_rules.specs.Jobs.{RefreshEntry, FanEntry, JobLists, IsNumbered, IsOneATitle, is_held_by, pages_of, first_fan, first_queued, page_held_by, refresh_queued, refresh_dropped, claimed_by, given_back}
use Rattle.wk_wiki_rules.specs.Steps.{all_queued, after_serving, cursor_behind, next_served, reach_of_save, rows_of_jobs, by_number}
use Rattle.wk_wiki_rules.specs.Users.{users}
use Rattle.wk_table_rules.specs.JobTable.{refresh_row}
use Rattle.wk_wiki_rules.proofs.JobLemmas.{IsNumbered-queued}
use Rattle.wk_view_rules.specs.Rows.{rows}
use Rattle.wk_wiki_rules.specs.States.{State, title_at, stored_at, world_of}
use Rattle.wk_wiki_rules.specs.Events.{Save, Claim, Done, Back, Fan, stored_with, with_saved, with_refreshed, with_jobs, step_by}
use Rattle.wk_wiki_rules.specs.Lives.{reopened}
use Rattle.wk_wiki_rules.specs.Tables.{tables_of, page_row, revision_row, link_rows, rows_of_pages}
use Rattle.wk_wiki_laws.specs.Kept.{IsKept}
use Rattle.wk_wiki_laws.proofs.SavedHistory.{Stands, text-own}
use Rattle.wk_wiki_laws.proofs.Formed.{Within, placed-in}
use Rattle.wk_wiki_laws.proofs.Fanned.{fans-all_queued, fans-queued}
use Rattle.wk_wiki_laws.proofs.TableHistory.{map-push, pages-old, pages-added}
use Rattle.wk_wiki_laws.proofs.TableJobs.{got}
use Rattle.wk_wiki_laws.proofs.TableLinks.{page-there, namespace-is}
use Rattle.wk_view_laws.proofs.PlanLemmas.{title_eq-true}
use Rattle.wk_wiki_rules.specs.TableChanges.{row_of_fan, refresh_edits, refreshes_edits, fan_edits, saved_revision, saved_page, save_change, refresh_change, refresh_change_without_rows, served_edit, fan_change, job_held_by}
use Rattle.wk_wiki_laws.specs.Makes.{Makes}
use Rattle.wk_wiki_laws.proofs.Room.{given}
use Rattle.wk_wiki_laws.proofs.TicketSteps.{saved-is, fanned-is}
use Rattle.wk_wiki_laws.proofs.JobChanges.{then-makes, queued-makes, all_queued-makes, row_of}
use Rattle.wk_wiki_laws.proofs.JobsMade.{fan_set-makes, moved-makes, fan_dropped-makes, dropped-makes, claimed-same, given_back-same, reopened-same}
use Rattle.wk_wiki_laws.proofs.LinksMade.{rows_from, same-rows, none-added, with_rows_of-is}
use Rattle.wk_wiki_laws.proofs.SavedTitles.{page-place, title-kept, title-saved}

-- ---- rows with rising numbers

enumerated-below : {X Row : Type 0} (id : Row → ℕ) (f : ℕ × X → Row) (same : (n : ℕ) (x : X) → id (f (n, x)) ≡ n) (a n : ℕ) (xs : List X) → a + length xs ≤ n → list_all (λ row. ltb (id row) n) (map f (enumerate_from a xs)) ≡ true
enumerated-below id f same a n [] below = refl
enumerated-below id f same a n (x ∷ xs) below =
    let one = same a x in
    and_from (ltb (id (f (a, x))) n) (list_all (λ row. ltb (id row) n) (map f (enumerate_from (a + 1) xs))) (lt-ltb (id (f (a, x))) n (omega (arith, one, below)))
    (enumerated-below id f same (a + 1) n xs (omega (arith, below)))

-- ---- the link tables, where titles and rows stay

-- the tables of a state, with these as its revisions, pages and jobs
abbrev linked : State → StoreTables → StoreTables
linked state tables = record tables {
  pagelinks = (tables_of state).pagelinks;
  templatelinks = (tables_of state).templatelinks;
  existlinks = (tables_of state).existlinks;
  categorylinks = (tables_of state).categorylinks;
  redirects = (tables_of state).redirects;
}

-- ---- a save

module _ (state : State) (keeps : IsKept state) (title : PageTitle) (text : Option (List ℕ)) (moment : ℕ) where
  abbrev h : History
  h = state.history

  abbrev after : State
  after = with_saved state title text moment

  abbrev T : StoreTables
  T = tables_of state

  revisions-made : (tables_of after).revisions ≡ T.revisions ++ saved_revision h title text moment ∷ []
  unfolding saved
  revisions-made =
      let one : 1 + length h.revisions ≡ next_revision h = omega arith in
      map-push revision_row 1 h.revisions (record { page = page_to_save h title; parent = current_revision h title; moment = moment; text = text })
      ∙ ap (λ n. T.revisions ++ revision_row (n, record { page = page_to_save h title; parent = current_revision h title; moment = moment; text = text }) ∷ []) one

  stand : AllByRecursion (λ (page : Page). Stands h page.current) h.pages
  stand = recursion_from_All (λ (page : Page). Stands h page.current) h.pages keeps.formed.texts

  abbrev is_it : Page → Bool
  is_it page = title_eq page.title title

  -- the row of the page, by its place and its title
  page-row-is : (number : ℕ) (named : PageTitle) → number ≡ page_to_save h title → named ≡ title → page_row (saved h title text moment) (number, record { title = named; current = cond (is_some text) (next_revision h) 0 }) ≡ saved_page h title text
  page-row-is number named at is =
      let len = ap (λ (o : Option (List ℕ)). length (unwrap_or o [])) (text-own h title text moment) in
      λ i. record { page_id = at i; page_title = is i; page_latest = cond (is_some text) (next_revision h) 0; page_len = len i }

  pages-made : with_page T.pages (saved_page h title text) ≡ (tables_of after).pages
  pages-made = elim (cases_Bool (list_any is_it h.pages)) [
    | inl there ↦
        let place = position_or_len is_it h.pages in
        let within = ltb-true place (length h.pages) (placed-in title 0 h.pages ∙ there) in
        let found = got h.pages place within in
        let named : found.0.title ≡ title = title-found found.0 h.pages there found.1 in
        let number : 1 + place ≡ page_to_save h title = (let at = page-place h title text moment in omega (arith, at)) in
        ap (with_page T.pages) (sym (page-row-is (1 + place) found.0.title number named)) ∙ pages-old h title text moment stand found.0 there found.1
    | inr none ↦
        let past = placed-in title 0 h.pages ∙ none in
        let number : 1 + length h.pages ≡ page_to_save h title = rw past (omega arith) in
        ap (with_page T.pages) (sym (page-row-is (1 + length h.pages) title number refl)) ∙ pages-added h title text moment stand none
  ]
    where
      title-found : (page : Page) (pages : List Page) → list_any is_it pages ≡ true → slice_get pages (position_or_len is_it pages) ≡ Some page → page.title ≡ title
      title-found page [] there at = absurd (let e : None ≡ Some page = at in cc)
      title-found page (p ∷ pages) there at = elim (cases_Bool (title_eq p.title title)) [
        | inl first ↦
            let e : Some p ≡ Some page = rw first at at in
            let is : p ≡ page = cc in
            ap (λ (q : Page). q.title) (sym is) ∙ title_eq-true p.title title first
        | inr other ↦ title-found page pages (rw other at there) (rw (other, one-add) at at)
      ]

  -- each page that has stored rows keeps its title
  kept-title : (number : ℕ) → 1 ≤ number → number < 1 + length state.stored → title_at after.history number ≡ title_at h number
  kept-title number low high = title-kept h title text moment number low (let same = keeps.formed.stored in omega (arith, high, same))

  rows-added : {Row : Type 0} (f : ℕ → PageRows → List Row) → ((number : ℕ) → f number no_rows ≡ []) → rows_from f 1 after.stored ≡ rows_from f 1 state.stored
  rows-added f none = cond_both (is_some (page_number h title)) state.stored (state.stored ++ no_rows ∷ []) (λ stored. rows_from f 1 stored ≡ rows_from f 1 state.stored) (λ old. refl) (λ new. none-added f 1 state.stored none)

  links-same : (titles : PageRows → List PageTitle) → titles no_rows ≡ [] → rows_of_pages (link_rows after.history titles) after.stored ≡ rows_of_pages (link_rows h titles) state.stored
  links-same titles none =
      rows-added (link_rows after.history titles) (λ number. ap (map (link_row number (title_at after.history number).ns)) none)
      ∙ same-rows (link_rows after.history titles) (link_rows h titles) 1 state.stored
      (λ number others low high. ap (λ (t : PageTitle). map (link_row number t.ns) (titles others)) (kept-title number low high))

  jobs-same : rows_of_jobs (title_at h) state.jobs ≡ rows_of_jobs (title_at after.history) state.jobs
  jobs-same = ap (λ rs. by_number (λ (row : JobColumns). row.job_id) (rs ++ map row_of_fan state.jobs.fans)) (by state.jobs.refreshes (recursion_from_All (Within (length h.pages)) (pages_of state.jobs) keeps.formed.jobs))
    where
      by : (jobs : List RefreshEntry) → AllByRecursion (Within (length h.pages)) (map (λ (job : RefreshEntry). job.page) jobs) → map (row_of (title_at h)) jobs ≡ map (row_of (title_at after.history)) jobs
      by [] all = refl
      by (job ∷ jobs) all = ap₂ (λ x xs. x ∷ xs) (ap (λ (t : PageTitle). refresh_row job.number t) (sym (title-kept h title text moment job.page all.0.0 all.0.1))) (by jobs all.1)

  -- the tables behind the revision and the page of a save
  abbrev with_history : StoreTables
  with_history = record (tables_of after) { jobs = rows_of_jobs (title_at after.history) state.jobs }

  history-made : Makes T (add_revision (saved_revision h title text moment) ∷ set_page (saved_page h title text) ∷ []) with_history
  history-made = record {
    fitting = and_from (list_all (λ (row : RevisionColumns). ltb row.rev_id (next_revision h)) T.revisions) (edit_fits (edited T (add_revision (saved_revision h title text moment))) (set_page (saved_page h title text)) && true)
        (enumerated-below (λ (row : RevisionColumns). row.rev_id) revision_row (λ n x. refl) 1 (next_revision h) h.revisions (omega arith))
        (and_from (edit_fits T (set_page (saved_page h title text))) true page-fits refl);
    result = λ i. record {
      pages = pages-made i;
      revisions = sym revisions-made i;
      pagelinks = sym (links-same (λ (rs : PageRows). rs.links) refl) i;
      templatelinks = sym (links-same (λ (rs : PageRows). rs.templates) refl) i;
      existlinks = sym (links-same (λ (rs : PageRows). rs.exists) refl) i;
      categorylinks = sym (rows-added (λ page (rs : PageRows). map (category_row page) rs.members) (λ number. refl)) i;
      redirects = sym (rows-added (λ page (rs : PageRows). map (redirect_row page) (option_to_list rs.redirect)) (λ number. refl)) i;
      jobs = jobs-same i;
      version = newest_version;
    };
  }
    where
      page-fits : (has_page T (page_to_save h title) || list_all (λ (row : PageColumns). ltb row.page_id (page_to_save h title)) T.pages) ≡ true
      page-fits = elim (cases_Bool (list_any is_it h.pages)) [
        | inl there ↦
            let within = ltb-true (position_or_len is_it h.pages) (length h.pages) (placed-in title 0 h.pages ∙ there) in
            let at = page-place h title text moment in
            or_left (has_page T (page_to_save h title)) (list_all (λ (row : PageColumns). ltb row.page_id (page_to_save h title)) T.pages) (page-there state (page_to_save h title) (omega (arith, at)) (omega (arith, at, within)))
        | inr none ↦
            let past = placed-in title 0 h.pages ∙ none in
            let number : page_to_save h title ≡ length h.pages + 1 = rw past refl in
            or_right (has_page T (page_to_save h title)) (list_all (λ (row : PageColumns). ltb row.page_id (page_to_save h title)) T.pages)
            (enumerated-below (λ (row : PageColumns). row.page_id) (page_row h) (λ n x. refl) 1 (page_to_save h title) h.pages (omega (arith, number)))
      ]

  pub save-makes : Makes T (save_change state title text moment) (tables_of after)
  save-makes =
      let page = page_to_save h title in
      let reach = reach_of_save (page_exists h title) (is_some text) in
      let stored = stored_with state title in
      let t = title_at after.history in
      let queued = refresh_queued state.jobs page in
      let middle = record (tables_of after) { jobs = rows_of_jobs t queued } in
      let refresh : Makes with_history (refresh_edits state.jobs page title) middle =
      subst (λ (named : PageTitle). Makes with_history (refresh_edits state.jobs page named) middle) (title-saved h title text moment) (queued-makes t with_history state.jobs page refl keeps.numbered) in
      let first = then-makes T with_history middle (add_revision (saved_revision h title text moment) ∷ set_page (saved_page h title text) ∷ []) (refresh_edits state.jobs page title) history-made refresh in
      let one : IsOneATitle queued = subst (λ (fs : List FanEntry). IsDistinct title_eq (map (λ (fan : FanEntry). fan.title) fs)) (sym (fans-queued state.jobs page)) keeps.one_title in
      let fan = fan_set-makes t middle stored queued title reach refl (IsNumbered-queued state.jobs page keeps.numbered) one in
      then-makes T middle (tables_of after) (add_revision (saved_revision h title text moment) ∷ set_page (saved_page h title text) ∷ refresh_edits state.jobs page title) (fan_edits stored queued title reach) first fan

pub save-step : (served : ℕ) (state next : State) (journal : ℕ) (title : PageTitle) (text : Option (List ℕ)) (moment : ℕ) → IsKept state → step_by served state journal (Save title text moment) ≡ Some next → Makes (tables_of state) (save_change state title text moment) (tables_of next)
save-step served state next journal title text moment keeps done =
    let is = saved-is served state next journal title text moment done in
    subst (λ (s : State). Makes (tables_of state) (save_change state title text moment) (tables_of s)) is.1 (save-makes state keeps title text moment)

-- ---- a refresh

own-row : {A Row : Type 0} (from : Row → ℕ) (f : A → Row) (number : ℕ) → ((x : A) → from (f x) ≡ number) → (xs : List A) → AllByRecursion (λ row. from row ≡ number) (map f xs)
own-row from f number own [] = tt
own-row from f number own (x ∷ xs) = (own x, own-row from f number own xs)

module _ (state : State) (keeps : IsKept state) (page : ℕ) (low : 1 ≤ page) (high : page ≤ length state.history.pages) (new : PageRows) where
  abbrev U : StoreTables
  U = tables_of state

  abbrev stored_then : List PageRows
  stored_then = set state.stored (page - 1) new

  has-rows : page ≤ length state.stored
  has-rows = let same = keeps.formed.stored in omega (arith, same, high)

  links-set : (titles : PageRows → List PageTitle) → with_rows_of (λ (row : LinkColumns). row.from) page (rows_of_pages (link_rows state.history titles) state.stored) (map (link_row page (namespace_of U page)) (titles new)) ≡ rows_of_pages (link_rows state.history titles) stored_then
  links-set titles =
      ap (λ ns. with_rows_of (λ (row : LinkColumns). row.from) page (rows_of_pages (link_rows state.history titles) state.stored) (map (link_row page ns) (titles new))) (namespace-is state page low)
      ∙ with_rows_of-is (λ (row : LinkColumns). row.from) (link_rows state.history titles) (λ number rs. own-row (λ (row : LinkColumns). row.from) (link_row number (title_at state.history number).ns) number (λ t. refl) (titles rs)) page state.stored new low has-rows

  abbrev with_rows : StoreTables
  with_rows = record (tables_of (record state { stored = stored_then })) { jobs = U.jobs }

  rows-made : Makes U (set_rows page new ∷ []) with_rows
  rows-made = record {
    fitting = and_from (has_page U page) true (page-there state page low high) refl;
    result = λ i. record {
      pages = U.pages;
      revisions = U.revisions;
      pagelinks = links-set (λ (rs : PageRows). rs.links) i;
      templatelinks = links-set (λ (rs : PageRows). rs.templates) i;
      existlinks = links-set (λ (rs : PageRows). rs.exists) i;
      categorylinks = with_rows_of-is (λ (row : CategoryColumns). row.cl_from) (λ p (rs : PageRows). map (category_row p) rs.members) (λ number rs. own-row (λ (row : CategoryColumns). row.cl_from) (category_row number) number (λ m. refl) rs.members) page state.stored new low has-rows i;
      redirects = with_rows_of-is (λ (row : RedirectColumns). row.rd_from) (λ p (rs : PageRows). map (redirect_row p) (option_to_list rs.redirect)) (λ number rs. own-row (λ (row : RedirectColumns). row.rd_from) (redirect_row number) number (λ m. refl) (option_to_list rs.redirect)) page state.stored new low has-rows i;
      jobs = U.jobs;
      version = newest_version;
    };
  }

-- the page of a job that is found is there
job-page : (state : State) (keeps : IsKept state) (p : RefreshEntry → Bool) (job : RefreshEntry) → find p state.jobs.refreshes ≡ Some job → Within (length state.history.pages) job.page
job-page state keeps p job found = by state.jobs.refreshes (recursion_from_All (Within (length state.history.pages)) (pages_of state.jobs) keeps.formed.jobs) found
  where
    by : (jobs : List RefreshEntry) → AllByRecursion (Within (length state.history.pages)) (map (λ (j : RefreshEntry). j.page) jobs) → find p jobs ≡ Some job → Within (length state.history.pages) job.page
    by [] all none = absurd (let e : None ≡ Some job = none in cc)
    by (j ∷ jobs) all there = let later = by jobs all.1 in elim (cases_Bool (p j)) [
      | inl first ↦
          let e : Some j ≡ Some job = rw first at there in
          let is : j ≡ job = cc in
          subst (λ (x : RefreshEntry). Within (length state.history.pages) x.page) is all.0
      | inr other ↦ later (rw other at there)
    ]

-- the state behind a refresh, by its job
done-is : (served : ℕ) (state next : State) (journal ticket : ℕ) (job : RefreshEntry) → job_held_by state.jobs ticket ≡ Some job → step_by served state journal (Done ticket) ≡ Some next → with_refreshed state job.page ≡ next
done-is served state next journal ticket job held done =
    let holds : page_held_by state.jobs ticket ≡ Some job.page = ap (λ o. option_map (λ (j : RefreshEntry). j.page) o) held in
    let e : Some (with_refreshed state job.page) ≡ Some next = rw holds at done in
    cc

pub refresh-step : (served : ℕ) (state next : State) (journal ticket : ℕ) (job : RefreshEntry) → IsKept state → job_held_by state.jobs ticket ≡ Some job → step_by served state journal (Done ticket) ≡ Some next
    → Makes (tables_of state) (refresh_change job (rows (world_of state) (title_at state.history job.page))) (tables_of next)
refresh-step served state next journal ticket job keeps held done =
    let within = job-page state keeps (is_held_by ticket) job held in
    let new = rows (world_of state) (title_at state.history job.page) in
    let first = rows-made state keeps job.page within.0 within.1 new in
    let dropped = dropped-makes (title_at state.history) (with_rows state keeps job.page within.0 within.1 new) state.jobs (is_held_by ticket) job held refl keeps.numbered keeps.one_page in
    subst (λ (s : State). Makes (tables_of state) (refresh_change job (rows (world_of state) (title_at state.history job.page))) (tables_of s)) (done-is served state next journal ticket job held done)
    (then-makes (tables_of state) (with_rows state keeps job.page within.0 within.1 new) (tables_of (with_refreshed state job.page)) (set_rows job.page new ∷ []) (drop_job job.number ∷ []) first dropped)

-- what is stored already is set to no change
set-same : {X : Type 0} (xs : List X) (place : ℕ) (x : X) → slice_get xs place ≡ Some x → set xs place x ≡ xs
set-same [] place x there = absurd (let e : None ≡ Some x = there in cc)
set-same (y ∷ xs) zero x there = let e : Some y ≡ Some x = there in let is : y ≡ x = cc in ap (λ z. z ∷ xs) (sym is)
set-same (y ∷ xs) (suc place) x there = ap (λ ys. y ∷ ys) (set-same xs place x there)

pub refresh-step-same : (served : ℕ) (state next : State) (journal ticket : ℕ) (job : RefreshEntry) → IsKept state → job_held_by state.jobs ticket ≡ Some job → step_by served state journal (Done ticket) ≡ Some next
    → stored_at state job.page ≡ rows (world_of state) (title_at state.history job.page) → Makes (tables_of state) (refresh_change_without_rows job) (tables_of next)
refresh-step-same served state next journal ticket job keeps held done current =
    let within = job-page state keeps (is_held_by ticket) job held in
    let new = rows (world_of state) (title_at state.history job.page) in
    let positive : eqb job.page 0 ≡ false = (let low = within.0 in ne_eqb job.page 0 (λ none. omega (arith, none, low))) in
    let found = got state.stored (job.page - 1) (let same = keeps.formed.stored in let low = within.0 in let high = within.1 in omega (arith, same, low, high)) in
    let is : found.0 ≡ new = (let old : stored_at state job.page ≡ found.0 = rw (positive, found.1) refl in sym old ∙ current) in
    let kept : set state.stored (job.page - 1) new ≡ state.stored = set-same state.stored (job.page - 1) new (found.1 ∙ ap (λ r. Some r) is) in
    let dropped = dropped-makes (title_at state.history) (tables_of state) state.jobs (is_held_by ticket) job held refl keeps.numbered keeps.one_page in
    let same : record (tables_of state) { jobs = rows_of_jobs (title_at state.history) (refresh_dropped state.jobs job.page) } ≡ tables_of (with_refreshed state job.page) =
    ap (λ (stored : List PageRows). tables_of (record state { stored = stored; jobs = refresh_dropped state.jobs job.page })) (sym kept) in
    subst (λ (s : State). Makes (tables_of state) (refresh_change_without_rows job) (tables_of s)) (done-is served state next journal ticket job held done)
    (subst (Makes (tables_of state) (refresh_change_without_rows job)) same dropped)

-- ---- a fan

pub IsNumbered-all : (lists : JobLists) (pages : List ℕ) → IsNumbered lists → IsNumbered (all_queued lists pages)
IsNumbered-all lists [] numbered = numbered
IsNumbered-all lists (page ∷ pages) numbered = IsNumbered-all (refresh_queued lists page) pages (IsNumbered-queued lists page numbered)

pub first-is : (fans : List FanEntry) (fan : FanEntry) → slice_get fans 0 ≡ Some fan → (rest : List FanEntry) × (fans ≡ fan ∷ rest)
first-is [] fan there = absurd (let e : None ≡ Some fan = there in cc)
first-is (f ∷ rest) fan there = (rest, let e : Some f ≡ Some fan = there in let is : f ≡ fan = cc in ap (λ g. g ∷ rest) is)

fan-makes : (served : ℕ) (state : State) (fan : FanEntry) → IsKept state → first_fan state.jobs ≡ Some fan → Makes (tables_of state) (fan_change served state fan) (tables_of (with_jobs state (after_serving state.stored served state.jobs fan)))
fan-makes served state fan keeps first =
    let t = title_at state.history in
    let pages = next_served state.stored served fan in
    let cursor = cursor_behind pages fan.cursor in
    let queued = all_queued state.jobs pages in
    let middle = record (tables_of state) { jobs = rows_of_jobs t queued } in
    let front = all_queued-makes t (tables_of state) state.jobs pages refl keeps.numbered in
    let is = first-is state.jobs.fans fan first in
    let fans : queued.fans ≡ fan ∷ is.0 = fans-all_queued state.jobs pages ∙ is.1 in
    let numbered = IsNumbered-all state.jobs pages keeps.numbered in
    let back : Makes middle (served_edit state.stored served fan ∷ []) (tables_of (with_jobs state (after_serving state.stored served state.jobs fan))) =
    elim (cases_Bool (eqb (length (users state.stored fan.title fan.reach cursor 1)) 0)) [
      | inl ended ↦ rw ended (fan_dropped-makes t middle queued fan is.0 fans refl numbered)
      | inr stays ↦ rw stays (moved-makes t middle queued fan is.0 cursor fans refl numbered)
    ] in
    then-makes (tables_of state) middle (tables_of (with_jobs state (after_serving state.stored served state.jobs fan))) (refreshes_edits t state.jobs pages) (served_edit state.stored served fan ∷ []) front back

pub fan-step : (served : ℕ) (state next : State) (journal : ℕ) (fan : FanEntry) → IsKept state → first_fan state.jobs ≡ Some fan → step_by served state journal Fan ≡ Some next → Makes (tables_of state) (fan_change served state fan) (tables_of next)
fan-step served state next journal fan keeps first done =
    let is = fanned-is served state next journal done in
    let e : Some is.0 ≡ Some fan = sym is.1.0 ∙ first in
    let same : is.0 ≡ fan = cc in
    let got_next : with_jobs state (after_serving state.stored served state.jobs fan) ≡ next = subst (λ (f : FanEntry). with_jobs state (after_serving state.stored served state.jobs f) ≡ next) same is.1.1 in
    subst (λ (s : State). Makes (tables_of state) (fan_change served state fan) (tables_of s)) got_next (fan-makes served state fan keeps first)

-- ---- what changes no table

with-rows-of : (state : State) (lists : JobLists) → rows_of_jobs (title_at state.history) lists ≡ rows_of_jobs (title_at state.history) state.jobs → tables_of (with_jobs state lists) ≡ tables_of state
with-rows-of state lists same = ap (λ (js : List JobColumns). record (tables_of state) { jobs = js }) same

pub claim-step : (served : ℕ) (state next : State) (journal : ℕ) → step_by served state journal Claim ≡ Some next → tables_of next ≡ tables_of state
claim-step served state next journal done =
    given (λ (s : State). tables_of s ≡ tables_of state) (λ page. with_jobs state (claimed_by state.jobs (journal + 1))) (first_queued state.jobs) next done
    (λ page first. with-rows-of state (claimed_by state.jobs (journal + 1)) (claimed-same (title_at state.history) state.jobs (journal + 1)))

pub back-step : (served : ℕ) (state next : State) (journal ticket : ℕ) → IsKept state → step_by served state journal (Back ticket) ≡ Some next → tables_of next ≡ tables_of state
back-step served state next journal ticket keeps done =
    given (λ (s : State). tables_of s ≡ tables_of state) (λ page. with_jobs state (given_back state.jobs page)) (page_held_by state.jobs ticket) next done
    (λ page holds. with-rows-of state (given_back state.jobs page) (given_back-same (title_at state.history) state.jobs page keeps.numbered))

pub reopened-tables : (state : State) → tables_of (reopened state) ≡ tables_of state
reopened-tables state = with-rows-of state (reopened state).jobs (reopened-same (title_at state.history) state.jobs)
