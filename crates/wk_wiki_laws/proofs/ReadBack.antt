-- What the tables of a state stand for, opened, is the state after a restart.
use Rattle.std.proofs.Common.{◌≡◌, ◌≢◌, ℕ, zero, suc, ◌+◌, ◌-◌, ◌≤◌, ◌<◌, ◌^◌, pos, Bool, true, false, cond, eqb, ltb, List, [], ◌∷◌, ◌++◌, length, map, flat_map, fold, max, unwrap_or, Option, Some, None, refl, sym, ap, ap₂, ◌∙◌, inl, inr, subst, arith, append-nil}
use Rattle.std.specs.Prelude.{slice_get, option_map, find, is_none}
use Rattle.std.specs.List.{AllByRecursion, filter, enumerate_from, position_or_len, IsDistinct}
use Rattle.std.specs.Option.{option_to_list}
use Rattle.std.proofs.lemmas.Bool.{cases_Bool, eqb-true, eqb-false, eq-eqb, ne_eqb, lt-ltb}
use Rattle.std.proofs.lemmas.List.Elements.{filter-append, recursion_from_All}
use Rattle.wk_text_rules.specs.Titles.{PageTitle, title_eq}
use Rattle.wk_page_rules.specs.History.{History, Page, Revision, page_number}
use Rattle.wk_table_rules.specs.Rows.{PageColumns, LinkColumns, CategoryColumns, RedirectColumns}
use Rattle.wk_page_rules.specs.PageRows.{Member, PageRows}
use Rattle.wk_table_rules.specs.Changes.{link_row, category_row, redirect_row}
use Rattle.wk_table_rules.specs.Stored.{targets_of, member_of, rows_of_page, stored_rows, history_of, page_of_row, revision_of_row}
use Rattle.wk_page_rules.specs.Verdict.{max_pages}
use Rattle.wk_wiki_rules.specs.Jobs.{RefreshEntry, FanEntry, JobLists, pages_of, queued_again}
use Rattle.wk_wiki_rules.specs.Steps.{by_number, reopened_jobs, jobs_of_tables}
use Rattle.wk_wiki_rules.proofs.Lists.{map-map}
use Rattle.wk_table_laws.proofs.Order.{by_number-map, by_number-twice, greatest-fold}
use Rattle.wk_table_laws.proofs.RoundTrip.{jobs_of_tables-rows}
use Rattle.wk_view_laws.proofs.PlanLemmas.{title_eq-same}
use Rattle.wk_wiki_rules.specs.States.{State, title_at}
use Rattle.wk_wiki_rules.specs.Tables.{tables_of, state_of, page_row, revision_row, link_rows, rows_of_pages}
use Rattle.wk_wiki_rules.specs.Lives.{reopened, opened}
use Rattle.wk_wiki_laws.specs.Kept.{AreGoodRows, FanFits, IsKept}
use Rattle.wk_wiki_laws.proofs.Formed.{Within}
use Rattle.wk_wiki_laws.proofs.TableJobs.{at-map, page-at}

-- ---- revisions and pages

revisions-back : (a : ℕ) (revisions : List Revision) → map revision_of_row (map revision_row (enumerate_from a revisions)) ≡ revisions
revisions-back a [] = refl
revisions-back a (r ∷ revisions) = ap₂ (λ x xs. x ∷ xs) (ap (λ (o : Option (List ℕ)). let one : Revision = record { page = r.page; parent = r.parent; moment = r.moment; text = o } in one) (text-back r.text)) (revisions-back (a + 1) revisions)
  where
    text-back : (o : Option (List ℕ)) → cond (is_none o) None (Some (unwrap_or o [])) ≡ o
    text-back None = refl
    text-back (Some t) = refl

pages-back : (h : History) (a : ℕ) (pages : List Page) → map page_of_row (map (page_row h) (enumerate_from a pages)) ≡ pages
pages-back h a [] = refl
pages-back h a (page ∷ pages) = ap (λ ps. page ∷ ps) (pages-back h (a + 1) pages)

history-back : (state : State) → history_of (tables_of state) ≡ state.history
history-back state = λ i. record { revisions = revisions-back 1 state.history.revisions i; pages = pages-back state.history 1 state.history.pages i }

-- ---- the rows of one page among those of all

module _ {Row : Type 0} (from : Row → ℕ) (rows_of : ℕ → PageRows → List Row) (own : (number : ℕ) (links : PageRows) → AllByRecursion (λ row. from row ≡ number) (rows_of number links)) where
  abbrev rows_from : ℕ → List PageRows → List Row
  rows_from a stored = flat_map (λ page. rows_of page.0 page.1) (enumerate_from a stored)

  abbrev is_of : ℕ → Row → Bool
  is_of number row = eqb (from row) number

  all-own : (number : ℕ) (rows : List Row) → AllByRecursion (λ row. from row ≡ number) rows → filter (is_of number) rows ≡ rows
  all-own number [] all = refl
  all-own number (row ∷ rows) all = let same : eqb (from row) number ≡ true = eq-eqb (from row) number all.0 in rw same (ap (λ xs. row ∷ xs) (all-own number rows all.1))

  none-own : (number other : ℕ) → other ≢ number → (rows : List Row) → AllByRecursion (λ row. from row ≡ other) rows → filter (is_of number) rows ≡ []
  none-own number other apart [] all = refl
  none-own number other apart (row ∷ rows) all =
      let differs : eqb (from row) number ≡ false = ne_eqb (from row) number (λ same. apart (sym all.0 ∙ same)) in rw differs (none-own number other apart rows all.1)

  none-below : (a number : ℕ) (stored : List PageRows) → number < a → filter (is_of number) (rows_from a stored) ≡ []
  none-below a number [] below = refl
  none-below a number (links ∷ stored) below =
      filter-append (is_of number) (rows_of a links) (rows_from (a + 1) stored)
      ∙ ap₂ (λ xs ys. xs ++ ys) (none-own number a (λ same. omega (arith, below, same)) (rows_of a links) (own a links)) (none-below (a + 1) number stored (omega (arith, below)))

  pub of-page : (a number : ℕ) (stored : List PageRows) (links : PageRows) → a ≤ number → slice_get stored (number - a) ≡ Some links → filter (is_of number) (rows_from a stored) ≡ rows_of number links
  of-page a number [] links from_a there = absurd (let e : None ≡ Some links = there in cc)
  of-page a number (x ∷ stored) links from_a there = elim (cases_Bool (eqb a number)) [
    | inl same ↦
        let at : a ≡ number = eqb-true a number same in
        let none : number - a ≡ 0 = omega (arith, at) in
        let first : Some x ≡ Some links = rw none at there in
        let is : x ≡ links = cc in
        filter-append (is_of number) (rows_of a x) (rows_from (a + 1) stored)
        ∙ (ap₂ (λ xs ys. xs ++ ys)
        (subst (λ n. filter (is_of number) (rows_of a x) ≡ rows_of n x) at (all-own number (rows_of a x) (subst (λ n. AllByRecursion (λ row. from row ≡ n) (rows_of a x)) at (own a x))))
        (none-below (a + 1) number stored (omega (arith, at)))
        ∙ (append-nil (rows_of number x) ∙ ap (rows_of number) is))
    | inr other ↦
        let apart = eqb-false a number other in
        let one : number - a ≡ suc (number - (a + 1)) = omega (arith, apart, from_a) in
        filter-append (is_of number) (rows_of a x) (rows_from (a + 1) stored)
        ∙ ap₂ (λ xs ys. xs ++ ys) (none-own number a apart (rows_of a x) (own a x)) (of-page (a + 1) number stored links (omega (arith, apart, from_a)) (rw one at there))
  ]

own-row : {A Row : Type 0} (from : Row → ℕ) (f : A → Row) (number : ℕ) → ((x : A) → from (f x) ≡ number) → (xs : List A) → AllByRecursion (λ row. from row ≡ number) (map f xs)
own-row from f number own [] = tt
own-row from f number own (x ∷ xs) = (own x, own-row from f number own xs)

map-same : {X Y : Type 0} (g : Y → X) (f : X → Y) → ((x : X) → g (f x) ≡ x) → (xs : List X) → map g (map f xs) ≡ xs
map-same g f same [] = refl
map-same g f same (x ∷ xs) = ap₂ (λ y ys. y ∷ ys) (same x) (map-same g f same xs)

find-filter : {X : Type 0} (p : X → Bool) (xs : List X) → find p xs ≡ slice_get (filter p xs) 0
find-filter p [] = refl
find-filter p (x ∷ xs) = elim (cases_Bool (p x)) [ inl passes ↦ rw passes refl | inr fails ↦ rw fails (find-filter p xs) ]

module _ (state : State) where
  titles-back : (titles : PageRows → List PageTitle) (number : ℕ) (links : PageRows) → 1 ≤ number → slice_get state.stored (number - 1) ≡ Some links → targets_of number (rows_of_pages (link_rows state.history titles) state.stored) ≡ titles links
  titles-back titles number links low there =
      ap (λ (rows : List LinkColumns). map (λ (row : LinkColumns). row.target) rows)
      (of-page (λ (row : LinkColumns). row.from) (link_rows state.history titles) (λ n l. own-row (λ (row : LinkColumns). row.from) (link_row n (title_at state.history n).ns) n (λ t. refl) (titles l)) 1 number state.stored links low there)
      ∙ map-same (λ (row : LinkColumns). row.target) (link_row number (title_at state.history number).ns) (λ t. refl) (titles links)

  member-back : (number : ℕ) (members : List Member) → AllByRecursion (λ (m : Member). m.category.ns ≡ pos 14) members → map member_of (map (category_row number) members) ≡ members
  member-back number [] all = refl
  member-back number (m ∷ members) all =
      ap₂ (λ x xs. x ∷ xs) (ap (λ ns. let one : Member = record { category = record { ns = ns; key = m.category.key }; sortkey = m.sortkey; prefix = m.prefix } in one) (sym all.0)) (member-back number members all.1)

  members-back : (number : ℕ) (links : PageRows) → 1 ≤ number → slice_get state.stored (number - 1) ≡ Some links → AreGoodRows links → map member_of (filter (λ (row : CategoryColumns). eqb row.cl_from number) (tables_of state).categorylinks) ≡ links.members
  members-back number links low there good =
      ap (map member_of)
      (of-page (λ (row : CategoryColumns). row.cl_from) (λ page l. map (category_row page) l.members) (λ n l. own-row (λ (row : CategoryColumns). row.cl_from) (category_row n) n (λ m. refl) l.members) 1 number state.stored links low there)
      ∙ member-back number links.members good.categories

  redirect-back : (number : ℕ) (links : PageRows) → 1 ≤ number → slice_get state.stored (number - 1) ≡ Some links → option_map (λ (row : RedirectColumns). row.rd_title) (find (λ (row : RedirectColumns). eqb row.rd_from number) (tables_of state).redirects) ≡ links.redirect
  redirect-back number links low there =
      ap (λ o. option_map (λ (row : RedirectColumns). row.rd_title) o) (find-filter (λ (row : RedirectColumns). eqb row.rd_from number) (tables_of state).redirects)
      ∙ (ap (λ rows. option_map (λ (row : RedirectColumns). row.rd_title) (slice_get rows 0))
      (of-page (λ (row : RedirectColumns). row.rd_from) (λ page l. map (redirect_row page) (option_to_list l.redirect)) (λ n l. own-row (λ (row : RedirectColumns). row.rd_from) (redirect_row n) n (λ t. refl) (option_to_list l.redirect)) 1 number state.stored links low there)
      ∙ one links.redirect)
    where
      one : (o : Option PageTitle) → option_map (λ (row : RedirectColumns). row.rd_title) (slice_get (map (redirect_row number) (option_to_list o)) 0) ≡ o
      one None = refl
      one (Some t) = refl

  links-back : (number : ℕ) (links : PageRows) → 1 ≤ number → slice_get state.stored (number - 1) ≡ Some links → AreGoodRows links → rows_of_page (tables_of state) number ≡ links
  links-back number links low there good = λ i. record {
    templates = titles-back (λ l. l.templates) number links low there i;
    exists = titles-back (λ l. l.exists) number links low there i;
    links = titles-back (λ l. l.links) number links low there i;
    members = members-back number links low there good i;
    redirect = redirect-back number links low there i;
  }

  stored-from : (a : ℕ) (pages : List Page) (stored : List PageRows) → 1 ≤ a → length stored ≡ length pages → ((place : ℕ) (links : PageRows) → slice_get stored place ≡ Some links → slice_get state.stored (a + place - 1) ≡ Some links)
      → AllByRecursion AreGoodRows stored → map (λ (row : PageColumns). rows_of_page (tables_of state) row.page_id) (map (page_row state.history) (enumerate_from a pages)) ≡ stored
  stored-from a [] [] low same at good = refl
  stored-from a [] (links ∷ stored) low same at good = absurd (omega (arith, same))
  stored-from a (page ∷ pages) [] low same at good = absurd (omega (arith, same))
  stored-from a (page ∷ pages) (links ∷ stored) low same at good =
      let here : a + 0 - 1 ≡ a - 1 = omega arith in
      ap₂ (λ x xs. x ∷ xs) (links-back a links low (subst (λ n. slice_get state.stored n ≡ Some links) here (at 0 links refl)) good.0)
      (stored-from (a + 1) pages stored (omega (arith, low)) (omega (arith, same))
      (λ place l there. let one : a + suc place - 1 ≡ (a + 1) + place - 1 = omega arith in subst (λ n. slice_get state.stored n ≡ Some l) one (at (suc place) l there)) good.1)

  stored-back : IsKept state → stored_rows (tables_of state) ≡ state.stored
  stored-back keeps =
      stored-from 1 state.history.pages state.stored (omega arith) keeps.formed.stored
      (λ place links there. let same : 1 + place - 1 ≡ place = omega arith in subst (λ n. slice_get state.stored n ≡ Some links) (sym same) there) keeps.links

-- ---- jobs

found-at : (pages : List Page) (place : ℕ) (page : Page) → IsDistinct title_eq (map (λ (p : Page). p.title) pages) → slice_get pages place ≡ Some page
    → position_or_len (λ (p : Page). title_eq p.title page.title) pages ≡ place
unfolding IsDistinct
found-at [] place page distinct there = absurd (let e : None ≡ Some page = there in cc)
found-at (p ∷ pages) zero page distinct there =
    let is : p ≡ page = (let e : Some p ≡ Some page = there in cc) in
    let same : title_eq p.title page.title ≡ true = subst (λ (q : Page). title_eq q.title page.title ≡ true) (sym is) (title_eq-same page.title) in
    rw same refl
found-at (p ∷ pages) (suc place) page distinct there =
    let differs = at-map (λ t. title_eq p.title t ≡ false) (λ (q : Page). q.title) pages place page distinct.0 there in
    let later = found-at pages place page distinct.1 there in
    rw (differs, later) (omega arith)

page-found : (state : State) (number : ℕ) → IsKept state → Within (length state.history.pages) number → page_number (history_of (tables_of state)) (title_at state.history number) ≡ Some number
page-found state number keeps within =
    let h = state.history in
    let found = page-at h number within in
    let place = found-at h.pages (number - 1) found.0 keeps.formed.titles found.1.0 in
    let below : ltb (number - 1) (length h.pages) ≡ true = lt-ltb (number - 1) (length h.pages) (omega (arith, within.0, within.1)) in
    let at : page_number h found.0.title ≡ Some (number - 1 + 1) = rw (place, below) refl in
    let one : number - 1 + 1 ≡ number = omega (arith, within.0) in
    ap (λ (g : History). page_number g (title_at h number)) (history-back state) ∙ ap (page_number h) found.1.1 ∙ at ∙ ap (λ n. Some n) one

jobs-found : (state : State) → IsKept state → (jobs : List RefreshEntry) → AllByRecursion (Within (length state.history.pages)) (map (λ (job : RefreshEntry). job.page) jobs)
    → AllByRecursion (λ (job : RefreshEntry). page_number (history_of (tables_of state)) (title_at state.history job.page) ≡ Some job.page) jobs
jobs-found state keeps [] within = tt
jobs-found state keeps (job ∷ jobs) within = (page-found state job.page keeps within.0, jobs-found state keeps jobs within.1)

cursors-small : (fans : List FanEntry) → AllByRecursion (FanFits max_pages) fans → AllByRecursion (λ (fan : FanEntry). fan.cursor < 2 ^ 64) fans
cursors-small [] all = tt
cursors-small (fan ∷ fans) all = (let low = all.0.1 in omega (arith, low), cursors-small fans all.1)

jobs-back : (state : State) → IsKept state → jobs_of_tables (tables_of state) ≡ reopened_jobs state.jobs
jobs-back state keeps =
    jobs_of_tables-rows (tables_of state) (title_at state.history) state.jobs (record {
      found = jobs-found state keeps state.jobs.refreshes (recursion_from_All (Within (length state.history.pages)) (pages_of state.jobs) keeps.formed.jobs);
      small = cursors-small state.jobs.fans keeps.fans;
    }) keeps.in_order

-- ---- a second restart changes nothing

fold-append : (a : ℕ) (xs ys : List ℕ) → fold max a (xs ++ ys) ≡ fold max (fold max a xs) ys
fold-append a [] ys = refl
fold-append a (x ∷ xs) ys = fold-append (max a x) xs ys

pub reopened-twice : (lists : JobLists) → reopened_jobs (reopened_jobs lists) ≡ reopened_jobs lists
reopened-twice lists =
    let number = λ (job : RefreshEntry). job.number in
    let rs = lists.refreshes in
    let sorted = by_number number rs in
    let refreshes : map queued_again (by_number number (map queued_again sorted)) ≡ map queued_again sorted =
    ap (map queued_again) (by_number-map queued_again number number (λ job. refl) sorted ∙ ap (map queued_again) (by_number-twice number rs))
    ∙ map-map queued_again queued_again queued_again (λ job. refl) sorted in
    let fans = map (λ (job : FanEntry). job.number) lists.fans in
    let numbers : map number (map queued_again sorted) ≡ map number sorted = map-map number queued_again number (λ job. refl) sorted in
    let greatest : fold max 0 (map number (map queued_again sorted) ++ fans) ≡ fold max 0 (map number rs ++ fans) =
    fold-append 0 (map number (map queued_again sorted)) fans
    ∙ (ap (λ n. fold max n fans) (ap (fold max 0) numbers ∙ greatest-fold number [] rs) ∙ sym (fold-append 0 (map number rs) fans)) in
    λ i. record { refreshes = refreshes i; fans = lists.fans; next = greatest i + 1 }

-- ---- the state that is opened

pub state-back : (state : State) → IsKept state → state_of (tables_of state) ≡ reopened state
state-back state keeps = λ i. record { history = history-back state i; stored = stored-back state keeps i; jobs = jobs-back state keeps i }

pub opened-is : (state : State) → IsKept state → opened (tables_of state) ≡ reopened state
opened-is state keeps = ap reopened (state-back state keeps) ∙ ap (λ (lists : JobLists). record state { jobs = lists }) (reopened-twice state.jobs)
