-- The rows of good tables, read one after the other: the numbers of pages by their titles, and the jobs.
use Rattle.std.proofs.Common.{◌≡◌, ℕ, suc, ◌+◌, ◌-◌, ◌^◌, ◌<◌, ◌≤◌, Bool, true, false, cond, eqb, ltb, leb, ◌&&◌, not, List, [], ◌∷◌, ◌++◌, length, map, take, get_or, slice_get, max, Option, Some, None, refl, sym, ap, ◌∙◌, inl, inr, subst, arith}
use Rattle.std.specs.Prelude.{bytes_eq, is_some, option_map, position}
use Rattle.std.specs.List.{filter_map, fold, list_all, list_any}
use Rattle.std.specs.Option.{option_or}
use Rattle.std.proofs.lemmas.Bool.{cases_Bool, and_parts, or_parts, not-true, both_ways, false_from_ne_true, eqb-true, leb-true, ltb-true}
use Rattle.std.proofs.lemmas.List.{append-nil, length-map, length-take-le, map-append, take_all, take_more}
use Rattle.std.proofs.lemmas.List.Elements.{filter_map-append}
use Rattle.std.proofs.lemmas.List.Quantifiers.{position-Some}
use Rattle.std.proofs.lemmas.List.Sums.{fold-append}
use Rattle.std.proofs.lemmas.Option.{get_or_from_slice_get, slice_get-get_or}
use Rattle.std.proofs.lemmas.Slice.Eq.{bytes_eq-Decides}
use Rattle.wk_text_rules.specs.Titles.{PageTitle, is_normal, is_page_title, title_eq}
use Rattle.wk_page_rules.specs.History.{Page, page_number}
use Rattle.wk_page_rules.specs.Verdict.{max_pages}
use Rattle.wk_table_rules.specs.Rows.{JobColumns, PageColumns, StoreTables}
use Rattle.wk_table_rules.specs.Stored.{history_of, page_of_row}
use Rattle.wk_table_rules.specs.JobTable.{FanParams, refresh_cmd, fan_cmd, fan_params}
use Rattle.wk_table_rules.specs.GoodStore.{IsGood, has_good_id, has_good_title, is_good_job, is_good_number, is_good_refresh, is_good_fan, is_fan_params, is_refresh_params, job_bound, stands_already}
use Rattle.wk_table_laws.specs.EachGood.{EachGood}
use Rattle.wk_table_laws.proofs.FirstBad.{KeepsRules-from_good}
use Rattle.wk_table_laws.proofs.GoodChanges.{EachGood-at}
use Rattle.wk_table_laws.proofs.JobRows.{slice_get-within}
use Rattle.wk_table_rows.proofs.FirstPlace.{position-here, position-later}
use Rattle.wk_wiki_rules.specs.Jobs.{RefreshEntry, FanEntry, JobLists}
use Rattle.wk_wiki_rules.specs.Steps.{next_above, refresh_of_row, fan_of_row, jobs_of_tables}
use Rattle.wk_wiki_rules.proofs.Lists.{list_any-map}
use Rattle.wk_jobs.specs.Loaded.{CanBeFan, CanBeRefresh, jobs_so_far, number_in, with_row}
use Rattle.wk_jobs.proofs.FanLists.{title_eq-true}
use Rattle.wk_jobs.proofs.Numbered.{lists_with, refresh_queued-new}
use Rattle.wk_jobs.proofs.Places.{position-there}

-- ---- a list read to a place

take-next : {X : Type 0} (xs : List X) (i : ℕ) (x : X) → slice_get xs i ≡ Some x → take (i + 1) xs ≡ take i xs ++ x ∷ []
take-next xs i x there = take_more xs i x (slice_get-within xs i x there) ∙ ap (λ y. take i xs ++ y ∷ []) (get_or_from_slice_get xs i x x there)

-- an item that is read by its place
pub read-at : {X : Type 0} (xs ys : List X) (i : ℕ) (x : X) → xs ≡ ys → i < length xs → x ≡ get_or xs i x → slice_get ys i ≡ Some x
read-at xs ys i x same inside is = ap (λ l. slice_get l i) (sym same) ∙ slice_get-get_or xs i x inside ∙ ap Some (sym is)

no-place : (o : Option ℕ) → is_some o ≡ false → o ≡ None
no-place None none = refl
no-place (Some k) none = absurd (let e : true ≡ false = none in cc)

step-of : (o : Option ℕ) (b : Bool) (n : ℕ) → option_map (λ place. suc place) (option_or o (cond b (Some n) None)) ≡ option_or (option_map (λ place. suc place) o) (cond b (Some (suc n)) None)
step-of None true n = refl
step-of None false n = refl
step-of (Some k) b n = refl

module _ {X : Type 0} (p : X → Bool) where
  -- one item more at the end
  position-push : (xs : List X) (x : X) → position p (xs ++ x ∷ []) ≡ option_or (position p xs) (cond (p x) (Some (length xs)) None)
  position-push [] x = elim (cases_Bool (p x)) [
    | inl here ↦ rw (position-here p x [] here, here) refl
    | inr other ↦ rw (position-later p x [] other, other) refl
  ]
  position-push (y ∷ ys) x = elim (cases_Bool (p y)) [
    | inl here ↦ position-here p y (ys ++ x ∷ []) here ∙ ap (λ o. option_or o (cond (p x) (Some (suc (length ys))) None)) (sym (position-here p y ys here))
    | inr other ↦
        position-later p y (ys ++ x ∷ []) other ∙ ap (option_map (λ place. suc place)) (position-push ys x)
        ∙ step-of (position p ys) (p x) (length ys)
        ∙ ap (λ o. option_or o (cond (p x) (Some (suc (length ys))) None)) (sym (position-later p y ys other))
  ]

-- ---- the numbers of pages

abbrev titled : PageTitle → Page → Bool
titled title page = title_eq page.title title

abbrev counted : Option ℕ → Option ℕ
counted o = option_map (λ place. place + 1) o

or-none : (o : Option ℕ) → option_or o None ≡ o
or-none None = refl
or-none (Some k) = refl

-- the page of a further row is found by its title, and each other page as before
pub number-more : (rows : List PageColumns) (i : ℕ) (row : PageColumns) → EachGood has_good_title rows → slice_get rows i ≡ Some row
    → (title : PageTitle) → number_in (take (i + 1) rows) title ≡ cond (title_eq row.page_title title) (Some (i + 1)) (number_in (take i rows) title)
number-more rows i row good there title =
    let before = take i rows in
    let pages = map page_of_row before in
    let inside : i < length rows = slice_get-within rows i row there in
    let len : length pages ≡ i = length-map before page_of_row ∙ length-take-le i rows (omega arith) in
    let parts = and_parts (is_page_title row.page_title) (not (list_any (λ (earlier : PageColumns). title_eq earlier.page_title row.page_title) before)) (EachGood-at has_good_title rows i row good there) in
    let more : position (titled title) (map page_of_row (take (i + 1) rows)) ≡ option_or (position (titled title) pages) (cond (title_eq row.page_title title) (Some (length pages)) None) =
    ap (λ l. position (titled title) (map page_of_row l)) (take-next rows i row there)
    ∙ ap (position (titled title)) (map-append page_of_row before (row ∷ []))
    ∙ position-push (titled title) pages (page_of_row row) in
    elim (cases_Bool (title_eq row.page_title title)) [
      | inl same ↦
          let none : list_any (titled title) pages ≡ false =
          list_any-map (titled title) page_of_row before
          ∙ ap (λ t. list_any (λ (earlier : PageColumns). title_eq earlier.page_title t) before) (sym (title_eq-true row.page_title title same))
          ∙ not-true (list_any (λ (earlier : PageColumns). title_eq earlier.page_title row.page_title) before) parts.1 in
          let unnumbered : position (titled title) pages ≡ None = no-place (position (titled title) pages) (position-there (titled title) pages ∙ none) in
          ap counted (rw (same, unnumbered, len) at more) ∙ rw same refl
      | inr other ↦ ap counted (rw (other, or-none (position (titled title) pages)) at more) ∙ rw other refl
    ]

-- the number of a page's row is its place, counted from 1, and fits
pub page_id-fits : (rows : List PageColumns) (i : ℕ) (row : PageColumns) → EachGood has_good_id rows → slice_get rows i ≡ Some row → (row.page_id ≡ i + 1) × (row.page_id ≤ max_pages)
page_id-fits rows i row good there =
    let inside : i < length rows = slice_get-within rows i row there in
    let parts = and_parts (eqb row.page_id (length (take i rows) + 1)) (leb row.page_id max_pages) (EachGood-at has_good_id rows i row good there) in
    (eqb-true row.page_id (length (take i rows) + 1) parts.0 ∙ ap (λ n. n + 1) (length-take-le i rows (omega arith)), leb-true row.page_id max_pages parts.1)

-- ---- the numbers of jobs

under : (n from : ℕ) (rows : List JobColumns) → from < n → list_all (λ (earlier : JobColumns). ltb earlier.job_id n) rows ≡ true → fold max from (map (λ (row : JobColumns). row.job_id) rows) < n
under n from [] low all = low
under n from (row ∷ rows) low all =
    let parts = and_parts (ltb row.job_id n) (list_all (λ (earlier : JobColumns). ltb earlier.job_id n) rows) all in
    let here : row.job_id < n = ltb-true row.job_id n parts.0 in
    under n (max from row.job_id) rows (omega arith) parts.1

most-bound : (b : Bool) → cond b (2 ^ 63 - max_pages) (2 ^ 63) ≤ 2 ^ 63
most-bound true = omega arith
most-bound false = omega arith

-- ---- one page, one title

place-of : (o : Option ℕ) (page : ℕ) → counted o ≡ Some page → (k : ℕ) × (o ≡ Some k) × (k + 1 ≡ page)
place-of None page e = absurd (let no : None ≡ Some page = e in cc)
place-of (Some k) page e = (k, refl, (let is : Some (k + 1) ≡ Some page = e in cc))

same-page : (tables : StoreTables) (a b : PageTitle) (page : ℕ) → page_number (history_of tables) a ≡ Some page → page_number (history_of tables) b ≡ Some page → title_eq a b ≡ true
same-page tables a b page of_a of_b =
    let pages = map page_of_row tables.pages in
    let d : Page = record { title = a; current = 0 } in
    let first = place-of (position (titled a) pages) page of_a in
    let second = place-of (position (titled b) pages) page of_b in
    let at_a = position-Some (titled a) pages first.0 d first.1 in
    let at_b = position-Some (titled b) pages second.0 d second.1 in
    let same : second.0 ≡ first.0 = omega (arith, first.2, second.2) in
    let here : title_eq (get_or pages first.0 d).title b ≡ true = subst (λ k. title_eq (get_or pages k d).title b ≡ true) same at_b.1 in
    subst (λ t. title_eq t b ≡ true) (title_eq-true (get_or pages first.0 d).title a at_a.1) here

-- a page whose title no earlier refresh job has has none of the jobs before
no-refresh : (tables : StoreTables) (title : PageTitle) (page : ℕ) → page_number (history_of tables) title ≡ Some page → (rows : List JobColumns) → stands_already rows refresh_cmd title ≡ false
    → list_any (λ (job : RefreshEntry). eqb job.page page) (filter_map (refresh_of_row tables) rows) ≡ false
no-refresh tables title page number [] none = refl
no-refresh tables title page number (row ∷ rows) none =
    let parts = or_parts (bytes_eq row.job_cmd refresh_cmd && title_eq row.job_title title) (stands_already rows refresh_cmd title) none in
    let later = no-refresh tables title page number rows parts.1 in
    elim (cases_Bool (bytes_eq row.job_cmd refresh_cmd)) [
      | inl refresh ↦ by (rw refresh at parts.0) later refresh (page_number (history_of tables) row.job_title) refl
      | inr other ↦ rw other later
    ]
  where
    by : title_eq row.job_title title ≡ false → list_any (λ (job : RefreshEntry). eqb job.page page) (filter_map (refresh_of_row tables) rows) ≡ false → bytes_eq row.job_cmd refresh_cmd ≡ true
        → (o : Option ℕ) → page_number (history_of tables) row.job_title ≡ o → list_any (λ (job : RefreshEntry). eqb job.page page) (filter_map (refresh_of_row tables) (row ∷ rows)) ≡ false
    by apart later refresh None is = rw (refresh, is) later
    by apart later refresh (Some own) is =
        let off : eqb own page ≡ false = false_from_ne_true (eqb own page) (λ same. both_ways (title_eq row.job_title title) apart
        (same-page tables row.job_title title page (is ∙ ap Some (eqb-true own page same)) number)) in
        rw (refresh, is, off) later

no-fan : (title : PageTitle) (rows : List JobColumns) → stands_already rows fan_cmd title ≡ false → list_any (λ (job : FanEntry). title_eq job.title title) (filter_map fan_of_row rows) ≡ false
no-fan title [] none = refl
no-fan title (row ∷ rows) none =
    let parts = or_parts (bytes_eq row.job_cmd fan_cmd && title_eq row.job_title title) (stands_already rows fan_cmd title) none in
    let later = no-fan title rows parts.1 in
    elim (cases_Bool (bytes_eq row.job_cmd fan_cmd)) [
      | inl fan ↦ by (rw fan at parts.0) later fan (fan_params row.job_params) refl
      | inr other ↦ rw other later
    ]
  where
    by : title_eq row.job_title title ≡ false → list_any (λ (job : FanEntry). title_eq job.title title) (filter_map fan_of_row rows) ≡ false → bytes_eq row.job_cmd fan_cmd ≡ true
        → (o : Option FanParams) → fan_params row.job_params ≡ o → list_any (λ (job : FanEntry). title_eq job.title title) (filter_map fan_of_row (row ∷ rows)) ≡ false
    by apart later fan None is = rw (fan, is) later
    by apart later fan (Some params) is = rw (fan, is, apart) later

-- ---- a row of good tables

module _ (tables : StoreTables) (good : IsGood tables) (i : ℕ) (row : JobColumns) (there : slice_get tables.jobs i ≡ Some row) where
  abbrev before : List JobColumns
  before = take i tables.jobs

  row-parts : (is_good_number tables.version before row ≡ true) × (cond (bytes_eq row.job_cmd refresh_cmd) (is_good_refresh tables before row) (is_good_fan before row) ≡ true)
  row-parts = and_parts (is_good_number tables.version before row) (cond (bytes_eq row.job_cmd refresh_cmd) (is_good_refresh tables before row) (is_good_fan before row))
      (EachGood-at (is_good_job tables) tables.jobs i row (KeepsRules-from_good tables good).jobs there)

  row-low : fold max 0 (map (λ (earlier : JobColumns). earlier.job_id) before) < row.job_id
  row-low =
      let parts = and_parts (leb 1 row.job_id && ltb row.job_id (job_bound tables.version)) (list_all (λ (earlier : JobColumns). ltb earlier.job_id row.job_id) before) row-parts.0 in
      let least : 1 ≤ row.job_id = leb-true 1 row.job_id (and_parts (leb 1 row.job_id) (ltb row.job_id (job_bound tables.version)) parts.0).0 in
      under row.job_id 0 before (omega (arith, least)) parts.1

  pub row-next : (jobs_so_far tables i).next ≤ row.job_id
  row-next = omega (arith, row-low)

  pub row-bound : row.job_id < 2 ^ 63
  row-bound =
      let parts = and_parts (leb 1 row.job_id && ltb row.job_id (job_bound tables.version)) (list_all (λ (earlier : JobColumns). ltb earlier.job_id row.job_id) before) row-parts.0 in
      let below : row.job_id < job_bound tables.version = ltb-true row.job_id (job_bound tables.version) (and_parts (leb 1 row.job_id) (ltb row.job_id (job_bound tables.version)) parts.0).1 in
      let most : job_bound tables.version ≤ 2 ^ 63 = most-bound (eqb tables.version 1) in
      omega (arith, below, most)

  refresh-at : (o : Option ℕ) → page_number (history_of tables) row.job_title ≡ o → is_some o ≡ true → stands_already before refresh_cmd row.job_title ≡ false → CanBeRefresh o (jobs_so_far tables i)
  refresh-at None is some none = absurd (let e : false ≡ true = some in cc)
  refresh-at (Some page) is some none = no-refresh tables row.job_title page is before none

  is_some-counted : (o : Option ℕ) → is_some (counted o) ≡ is_some o
  is_some-counted None = refl
  is_some-counted (Some k) = refl

  -- a refresh job's title is that of a page, which has no job yet
  pub row-refresh : bytes_eq row.job_cmd refresh_cmd ≡ true → CanBeRefresh (page_number (history_of tables) row.job_title) (jobs_so_far tables i)
  row-refresh refresh =
      let kind : is_good_refresh tables before row ≡ true = rw refresh at row-parts.1 in
      let paged = list_any (λ (page : PageColumns). title_eq page.page_title row.job_title) tables.pages in
      let new = not (stands_already before refresh_cmd row.job_title) in
      let parts = and_parts (paged && new) (is_refresh_params row.job_params) kind in
      let both = and_parts paged new parts.0 in
      let some : is_some (page_number (history_of tables) row.job_title) ≡ true =
      is_some-counted (position (titled row.job_title) (map page_of_row tables.pages)) ∙ position-there (titled row.job_title) (map page_of_row tables.pages)
      ∙ list_any-map (titled row.job_title) page_of_row tables.pages ∙ both.0 in
      refresh-at (page_number (history_of tables) row.job_title) refl some (not-true (stands_already before refresh_cmd row.job_title) both.1)

  -- a fan job's title has no job yet
  pub row-fan : bytes_eq row.job_cmd refresh_cmd ≡ false → CanBeFan row (jobs_so_far tables i)
  row-fan other =
      let kind : is_good_fan before row ≡ true = rw other at row-parts.1 in
      let cmd = bytes_eq row.job_cmd fan_cmd in
      let names = is_normal row.job_title in
      let new = not (stands_already before fan_cmd row.job_title) in
      let parts = and_parts (cmd && names && new) (is_fan_params row.job_params) kind in
      let three = and_parts (cmd && names) new parts.0 in
      let two = and_parts cmd names three.0 in
      record {
        cmd = (bytes_eq-Decides row.job_cmd fan_cmd).0 two.0;
        title = two.1;
        params = parts.1;
        none = no-fan row.job_title before (not-true (stands_already before fan_cmd row.job_title) three.1);
      }

  -- the jobs with those of this row, kind by kind
  row-more : jobs_so_far tables (i + 1)
      ≡ lists_with (filter_map (refresh_of_row tables) before ++ filter_map (refresh_of_row tables) (row ∷ [])) (filter_map fan_of_row before ++ filter_map fan_of_row (row ∷ [])) (row.job_id + 1)
  row-more =
      let id = λ (earlier : JobColumns). earlier.job_id in
      let low : max (fold max 0 (map id before)) row.job_id ≡ row.job_id = omega (arith, row-low) in
      let next : next_above (map id (before ++ row ∷ [])) ≡ row.job_id + 1 =
      ap next_above (map-append id before (row ∷ [])) ∙ ap (λ n. n + 1) (fold-append max 0 (map id before) (row.job_id ∷ []) ∙ low) in
      let all = before ++ row ∷ [] in
      let refreshes = filter_map-append (refresh_of_row tables) before (row ∷ []) in
      let fans = filter_map-append fan_of_row before (row ∷ []) in
      ap (λ rows. jobs_of_tables (record tables { jobs = rows })) (take-next tables.jobs i row there)
      ∙ ap (λ jobs. lists_with jobs (filter_map fan_of_row all) (next_above (map id all))) refreshes
      ∙ ap (λ jobs. lists_with (filter_map (refresh_of_row tables) before ++ filter_map (refresh_of_row tables) (row ∷ [])) jobs (next_above (map id all))) fans
      ∙ ap (lists_with (filter_map (refresh_of_row tables) before ++ filter_map (refresh_of_row tables) (row ∷ [])) (filter_map fan_of_row before ++ filter_map fan_of_row (row ∷ []))) next

  -- what a row of one kind gives of the other
  only-refresh : (entry : RefreshEntry) → filter_map (refresh_of_row tables) (row ∷ []) ≡ entry ∷ [] → filter_map fan_of_row (row ∷ []) ≡ []
      → jobs_so_far tables (i + 1) ≡ lists_with (filter_map (refresh_of_row tables) before ++ entry ∷ []) (filter_map fan_of_row before) (row.job_id + 1)
  only-refresh entry own none =
      row-more
      ∙ ap (λ jobs. lists_with (filter_map (refresh_of_row tables) before ++ jobs) (filter_map fan_of_row before ++ filter_map fan_of_row (row ∷ [])) (row.job_id + 1)) own
      ∙ ap (λ jobs. lists_with (filter_map (refresh_of_row tables) before ++ entry ∷ []) (filter_map fan_of_row before ++ jobs) (row.job_id + 1)) none
      ∙ ap (λ jobs. lists_with (filter_map (refresh_of_row tables) before ++ entry ∷ []) jobs (row.job_id + 1)) (append-nil (filter_map fan_of_row before))

  only-fan : (job : FanEntry) → filter_map (refresh_of_row tables) (row ∷ []) ≡ [] → filter_map fan_of_row (row ∷ []) ≡ job ∷ []
      → jobs_so_far tables (i + 1) ≡ lists_with (filter_map (refresh_of_row tables) before) (filter_map fan_of_row before ++ job ∷ []) (row.job_id + 1)
  only-fan job none own =
      row-more
      ∙ ap (λ jobs. lists_with (filter_map (refresh_of_row tables) before ++ jobs) (filter_map fan_of_row before ++ filter_map fan_of_row (row ∷ [])) (row.job_id + 1)) none
      ∙ ap (λ jobs. lists_with jobs (filter_map fan_of_row before ++ filter_map fan_of_row (row ∷ [])) (row.job_id + 1)) (append-nil (filter_map (refresh_of_row tables) before))
      ∙ ap (λ jobs. lists_with (filter_map (refresh_of_row tables) before) (filter_map fan_of_row before ++ jobs) (row.job_id + 1)) own

  by-page : bytes_eq row.job_cmd refresh_cmd ≡ true → (o : Option ℕ) → page_number (history_of tables) row.job_title ≡ o → CanBeRefresh o (jobs_so_far tables i)
      → with_row o row (jobs_so_far tables i) ≡ jobs_so_far tables (i + 1)
  by-page refresh None is can = absurd can
  by-page refresh (Some page) is can =
      let entry : RefreshEntry = record { number = row.job_id; page = page; ticket = None } in
      let not_fan : bytes_eq row.job_cmd fan_cmd ≡ false = ap (λ l. bytes_eq l fan_cmd) ((bytes_eq-Decides row.job_cmd refresh_cmd).0 refresh) ∙ refl in
      let own : filter_map (refresh_of_row tables) (row ∷ []) ≡ entry ∷ [] = rw (refresh, is) refl in
      let none : filter_map fan_of_row (row ∷ []) ≡ [] = rw not_fan refl in
      let lists = jobs_so_far tables i in
      rw refresh (refresh_queued-new (lists_with lists.refreshes lists.fans row.job_id) page can ∙ sym (only-refresh entry own none))

  by-params : bytes_eq row.job_cmd refresh_cmd ≡ false → (page : Option ℕ) (o : Option FanParams) → fan_params row.job_params ≡ o → CanBeFan row (jobs_so_far tables i)
      → with_row page row (jobs_so_far tables i) ≡ jobs_so_far tables (i + 1)
  by-params other page None is can = absurd (let e : false ≡ true = rw (is, is_fan_params) at can.params in cc)
  by-params other page (Some params) is can =
      let job : FanEntry = record { number = row.job_id; title = row.job_title; reach = params.reach; cursor = params.cursor } in
      let fan : bytes_eq row.job_cmd fan_cmd ≡ true = (bytes_eq-Decides row.job_cmd fan_cmd).1 can.cmd in
      let none : filter_map (refresh_of_row tables) (row ∷ []) ≡ [] = rw other refl in
      let own : filter_map fan_of_row (row ∷ []) ≡ job ∷ [] = rw (fan, is) refl in
      rw (other, fan, is) (sym (only-fan job none own))

  -- the lists with the job of this row are those of the rows up to it
  pub row-added : with_row (page_number (history_of tables) row.job_title) row (jobs_so_far tables i) ≡ jobs_so_far tables (i + 1)
  row-added = elim (cases_Bool (bytes_eq row.job_cmd refresh_cmd)) [
    | inl refresh ↦ by-page refresh (page_number (history_of tables) row.job_title) refl (row-refresh refresh)
    | inr other ↦ by-params other (page_number (history_of tables) row.job_title) (fan_params row.job_params) refl (row-fan other)
  ]

-- all rows were read
pub all-rows : (tables : StoreTables) (rows : List JobColumns) (i : ℕ) (lists : JobLists) → rows ≡ tables.jobs → length rows ≤ i → lists ≡ jobs_so_far tables i → lists ≡ jobs_of_tables tables
all-rows tables rows i lists same past so_far = so_far ∙ ap (λ l. jobs_of_tables (record tables { jobs = l })) (take_all i tables.jobs (subst (λ l. length l ≤ i) same past))
