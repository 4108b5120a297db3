-- Good tables are the tables of the state that they stand for; what a migration makes of them; and a restart of a restart.
use Rattle.std.proofs.Common.{◌≡◌, ◌≢◌, ℕ, ◌+◌, ◌-◌, ◌≤◌, ◌<◌, ◌^◌, Bool, true, false, cond, eqb, ltb, leb, not, ◌&&◌, List, [], ◌∷◌, ◌++◌, length, map, unwrap_or, Option, Some, None, refl, sym, ap, ap₂, ◌∙◌, inl, inr, subst, arith, pos, ◌⊎◌}
use Rattle.std.specs.Prelude.{bytes_eq, filter, find, filter_map, slice_get, option_map}
use Rattle.std.specs.List.{AllByRecursion, list_any, position_or_len, range_with_len}
use Rattle.std.specs.Option.{option_to_list}
use Rattle.std.specs.Ordering.{int_eq}
use Rattle.std.proofs.Math.Numerals.{one-add}
use Rattle.std.proofs.lemmas.Bool.{cases_Bool, and_parts, eqb-true, ne_eqb, ltb-true, false≢true}
use Rattle.std.proofs.lemmas.Bool.Decides.{Decides-int_eq}
use Rattle.std.proofs.lemmas.Slice.Eq.{bytes_eq-Decides}
use Rattle.wk_text_rules.specs.Titles.{PageTitle, title_eq, is_normal, is_page_title}
use Rattle.wk_page_rules.specs.History.{History, Page, page_number}
use Rattle.wk_page_rules.specs.Verdict.{max_pages}
use Rattle.wk_page_rules.specs.PageRows.{PageRows}
use Rattle.wk_table_rules.specs.Rows.{StoreTables, PageColumns, LinkColumns, CategoryColumns, RedirectColumns, JobColumns, category_title, newest_version}
use Rattle.wk_table_rules.specs.Changes.{set_version, has_page, namespace_of, link_row, category_row, redirect_row}
use Rattle.wk_table_rules.specs.JobTable.{FanParams, refresh_cmd, fan_cmd, fan_params}
use Rattle.wk_table_rules.specs.GoodStore.{IsGood, is_good_link, is_good_category, is_good_redirect, is_good_job, row_lt, job_bound, has_good_params, is_fan_params, bad_version}
use Rattle.wk_table_rules.specs.Stored.{history_of, page_of_row, rows_of_page, stored_rows, targets_of, member_of}
use Rattle.wk_table_laws.specs.EachGood.{EachGood, KeepsRules}
use Rattle.wk_table_laws.proofs.FirstBad.{KeepsRules-from_good}
use Rattle.wk_table_laws.proofs.JobRows.{is_good_kind, is_alone_good, may_follow, job-splits}
use Rattle.wk_table_laws.proofs.Links.{row_lt-rise}
use Rattle.wk_table_laws.proofs.Pairs.{Pairs, Passes-from_good}
use Rattle.wk_table_laws.proofs.SavedRows.{ids-above, ids-within}
use Rattle.wk_wiki_rules.specs.Jobs.{RefreshEntry, FanEntry, JobLists}
use Rattle.wk_wiki_rules.specs.Steps.{by_number, refresh_of_row, fan_of_row, rows_of_jobs, jobs_of_tables}
use Rattle.wk_table_laws.specs.InOrder.{Rises}
use Rattle.wk_table_laws.proofs.Order.{by_number-rising}
use Rattle.wk_view_laws.proofs.PlanLemmas.{title_eq-true}
use Rattle.wk_wiki_rules.specs.States.{State, title_at}
use Rattle.wk_wiki_rules.specs.Lives.{reopened, opened, all_refreshed}
use Rattle.wk_wiki_rules.specs.Tables.{tables_of, state_of, link_rows, rows_of_pages}
use Rattle.wk_wiki_laws.specs.Kept.{IsKept}
use Rattle.wk_wiki_laws.proofs.GoodJobs.{IsKept-state_of}
use Rattle.wk_wiki_laws.proofs.GoodStores.{pages-good, revisions-good}
use Rattle.wk_wiki_laws.proofs.ReadBack.{reopened-twice}
use Rattle.wk_wiki_laws.proofs.TableLinks.{namespace-is}
use Rattle.wk_wiki_rules.specs.TableChanges.{row_of_fan, refreshes_edits, migration}
use Rattle.wk_wiki_laws.specs.Makes.{Makes}
use Rattle.wk_wiki_laws.proofs.JobOrder.{each-weaker, Apart, by_number-parts, found-within}
use Rattle.wk_wiki_laws.proofs.JobChanges.{nothing-makes, one-makes, then-makes, all_queued-makes, row_of}
use Rattle.wk_wiki_laws.proofs.PagesSorted.{same-flat, rows-by-ids, Rising, flat-is}
use Rattle.wk_wiki_laws.proofs.ParamsBack.{params-back}
use Rattle.wk_wiki_laws.proofs.ChangesMade.{reopened-tables}

no-bytes : (bytes : List ℕ) → eqb (length bytes) 0 ≡ true → bytes ≡ []
no-bytes [] none = refl
no-bytes (b ∷ bytes) none = absurd (let e = eqb-true (length (b ∷ bytes)) 0 none in omega (arith, e))

-- the page with a title that some page has
found-title : (h : History) (title : PageTitle) → list_any (λ (page : Page). title_eq page.title title) h.pages ≡ true → (n : ℕ) × ((page_number h title ≡ Some n) × (title_at h n ≡ title))
found-title h title there =
    let place = position_or_len (λ (page : Page). title_eq page.title title) h.pages in
    let within = found-within (λ (page : Page). 0) (λ (page : Page). title_eq page.title title) h.pages there in
    let positive : eqb (place + 1) 0 ≡ false = ne_eqb (place + 1) 0 (λ none. omega (arith, none)) in
    let at : place + 1 - 1 ≡ place = omega arith in
    (place + 1, (rw within refl, rw (positive, at) (titled h.pages there)))
  where
    titled : (pages : List Page) → list_any (λ (page : Page). title_eq page.title title) pages ≡ true
        → unwrap_or (option_map (λ (page : Page). page.title) (slice_get pages (position_or_len (λ (page : Page). title_eq page.title title) pages))) (record { ns = pos 0; key = [] }) ≡ title
    titled [] none = absurd (let e : false ≡ true = none in cc)
    titled (page ∷ pages) some = elim (cases_Bool (title_eq page.title title)) [
      | inl first ↦ rw first (title_eq-true page.title title first)
      | inr other ↦ rw (other, one-add) (titled pages (rw other at some))
    ]

module _ (tables : StoreTables) (good : IsGood tables) where
  abbrev h : History
  h = history_of tables

  keeps : KeepsRules tables
  keeps = KeepsRules-from_good tables good

  abbrev n : ℕ
  n = length tables.pages

  -- ---- pages by their numbers

  page-range : (id : ℕ) → has_page tables id ≡ true → (1 ≤ id) × (id ≤ n)
  page-range id there = by tables.pages (ids-above [] tables.pages keeps.ids) (ids-within [] tables.pages keeps.ids) there
    where
      by : (pages : List PageColumns) → AllByRecursion (λ (row : PageColumns). 0 < row.page_id) pages → AllByRecursion (λ (row : PageColumns). row.page_id ≤ 0 + length tables.pages) pages → list_any (λ (row : PageColumns). eqb row.page_id id) pages ≡ true
          → (1 ≤ id) × (id ≤ length tables.pages)
      by [] above within none = absurd (let e : false ≡ true = none in cc)
      by (row ∷ pages) above within some = let later = by pages above.1 within.1 in elim (cases_Bool (eqb row.page_id id)) [
        | inl same ↦
            let is = eqb-true row.page_id id same in
            let low = above.0 in
            let high = within.0 in
            (omega (arith, is, low), omega (arith, is, high))
        | inr other ↦ later (rw other at some)
      ]

  namespace-good : (id : ℕ) → 1 ≤ id → namespace_of tables id ≡ (title_at h id).ns
  namespace-good id low =
      ap (λ (pages : List PageColumns). unwrap_or (option_map (λ (row : PageColumns). row.page_title.ns) (find (λ (row : PageColumns). eqb row.page_id id) pages)) (pos 0)) (sym (pages-good tables good))
      ∙ namespace-is (state_of tables) id low

  -- ---- link tables

  -- the rows of all pages, page by page, are the rows of a table in the order of its pages
  table-back : {Row : Type 0} (from : Row → ℕ) (f : ℕ → PageRows → List Row) (table : List Row) → ((k : ℕ) → 1 ≤ k → f k (rows_of_page tables k) ≡ filter (λ row. eqb (from row) k) table) → Rising from table → AllByRecursion (λ row. (1 ≤ from row) × (from row ≤ n)) table
      → rows_of_pages f (stored_rows tables) ≡ table
  table-back from f table each rising within =
      rows-by-ids f (rows_of_page tables) [] tables.pages 1 refl keeps.ids
      ∙ (same-flat (λ k. f k (rows_of_page tables k)) (λ k. filter (λ row. eqb (from row) k) table) 1 n (λ k low high. each k low)
      ∙ flat-is from n 1 table rising (each-weaker (λ row. (1 ≤ from row) × (from row ≤ n)) (λ row. 1 ≤ from row) (λ row range. range.0) table within)
      (each-weaker (λ row. (1 ≤ from row) × (from row ≤ n)) (λ row. from row < 1 + n) (λ row range. let high = range.1 in omega (arith, high)) table within))

  link-range : (table : List LinkColumns) → AllByRecursion (λ (row : LinkColumns). ((has_page tables row.from && int_eq row.from_namespace (namespace_of tables row.from)) && is_page_title row.target) ≡ true) table → AllByRecursion (λ (row : LinkColumns). (1 ≤ row.from) × (row.from ≤ n)) table
  link-range table alone = each-weaker (λ (row : LinkColumns). ((has_page tables row.from && int_eq row.from_namespace (namespace_of tables row.from)) && is_page_title row.target) ≡ true) (λ (row : LinkColumns). (1 ≤ row.from) × (row.from ≤ n))
      (λ row holds. page-range row.from (and_parts (has_page tables row.from) (int_eq row.from_namespace (namespace_of tables row.from)) (and_parts (has_page tables row.from && int_eq row.from_namespace (namespace_of tables row.from)) (is_page_title row.target) holds).0).0) table alone

  rising-links : (table : List LinkColumns) → Pairs (λ (earlier row : LinkColumns). row_lt earlier.from earlier.target row.from row.target) table → Rising (λ (row : LinkColumns). row.from) table
  rising-links [] pairs = tt
  rising-links (row ∷ table) pairs =
      (each-weaker (λ (later : LinkColumns). row_lt row.from row.target later.from later.target ≡ true) (λ (later : LinkColumns). row.from ≤ later.from) (λ later before. row_lt-rise row.from row.target later.from later.target before) table pairs.0, rising-links table pairs.1)

  links-of : (k : ℕ) → 1 ≤ k → (table : List LinkColumns) → AllByRecursion (λ (row : LinkColumns). ((has_page tables row.from && int_eq row.from_namespace (namespace_of tables row.from)) && is_page_title row.target) ≡ true) table
      → map (link_row k (title_at h k).ns) (targets_of k table) ≡ filter (λ (row : LinkColumns). eqb row.from k) table
  links-of k low [] alone = refl
  links-of k low (row ∷ table) alone = elim (cases_Bool (eqb row.from k)) [
    | inl own ↦
        let at = eqb-true row.from k own in
        let parts = and_parts (has_page tables row.from && int_eq row.from_namespace (namespace_of tables row.from)) (is_page_title row.target) alone.0 in
        let two = and_parts (has_page tables row.from) (int_eq row.from_namespace (namespace_of tables row.from)) parts.0 in
        let named : row.from_namespace ≡ (title_at h k).ns =
        (Decides-int_eq row.from_namespace (namespace_of tables row.from)).0 two.1 ∙ (ap (namespace_of tables) at ∙ namespace-good k low) in
        let same : link_row k (title_at h k).ns row.target ≡ row = (λ i. record { from = sym at i; from_namespace = sym named i; target = row.target }) in
        rw own (ap₂ (λ x xs. x ∷ xs) same (links-of k low table alone.1))
    | inr other ↦ rw other (links-of k low table alone.1)
  ]

  links-back : (titles : PageRows → List PageTitle) (table : List LinkColumns) → ((k : ℕ) → titles (rows_of_page tables k) ≡ targets_of k table) → EachGood (is_good_link tables) table → rows_of_pages (link_rows h titles) (stored_rows tables) ≡ table
  links-back titles table targets each =
      let passes = Passes-from_good (λ (earlier row : LinkColumns). row_lt earlier.from earlier.target row.from row.target)
      (λ (row : LinkColumns). (has_page tables row.from && int_eq row.from_namespace (namespace_of tables row.from)) && is_page_title row.target)
      (is_good_link tables) (λ before row. refl) table each in
      table-back (λ (row : LinkColumns). row.from) (link_rows h titles) table
      (λ k low. ap (map (link_row k (title_at h k).ns)) (targets k) ∙ links-of k low table passes.alone)
      (rising-links table passes.paired) (link-range table passes.alone)

  categories-of : (k : ℕ) (table : List CategoryColumns) → map (category_row k) (map member_of (filter (λ (row : CategoryColumns). eqb row.cl_from k) table)) ≡ filter (λ (row : CategoryColumns). eqb row.cl_from k) table
  categories-of k [] = refl
  categories-of k (row ∷ table) = elim (cases_Bool (eqb row.cl_from k)) [
    | inl own ↦
        let at = eqb-true row.cl_from k own in
        let same : category_row k (member_of row) ≡ row = (λ i. record { cl_from = sym at i; cl_to = row.cl_to; cl_sortkey = row.cl_sortkey; cl_sortkey_prefix = row.cl_sortkey_prefix }) in
        rw own (ap₂ (λ x xs. x ∷ xs) same (categories-of k table))
    | inr other ↦ rw other (categories-of k table)
  ]

  rising-categories : (table : List CategoryColumns) → Pairs (λ (earlier row : CategoryColumns). row_lt earlier.cl_from (category_title earlier.cl_to) row.cl_from (category_title row.cl_to)) table → Rising (λ (row : CategoryColumns). row.cl_from) table
  rising-categories [] pairs = tt
  rising-categories (row ∷ table) pairs =
      (each-weaker (λ (later : CategoryColumns). row_lt row.cl_from (category_title row.cl_to) later.cl_from (category_title later.cl_to) ≡ true) (λ (later : CategoryColumns). row.cl_from ≤ later.cl_from) (λ later before. row_lt-rise row.cl_from (category_title row.cl_to) later.cl_from (category_title later.cl_to) before) table pairs.0, rising-categories table pairs.1)

  categories-back : rows_of_pages (λ page (rs : PageRows). map (category_row page) rs.members) (stored_rows tables) ≡ tables.categorylinks
  categories-back =
      let table = tables.categorylinks in
      let passes = Passes-from_good (λ (earlier row : CategoryColumns). row_lt earlier.cl_from (category_title earlier.cl_to) row.cl_from (category_title row.cl_to))
      (λ (row : CategoryColumns). has_page tables row.cl_from && is_normal (category_title row.cl_to)) (is_good_category tables) (λ before row. refl) table keeps.categorylinks in
      table-back (λ (row : CategoryColumns). row.cl_from) (λ page (rs : PageRows). map (category_row page) rs.members) table (λ k low. categories-of k table) (rising-categories table passes.paired)
      (each-weaker (λ (row : CategoryColumns). (has_page tables row.cl_from && is_normal (category_title row.cl_to)) ≡ true) (λ (row : CategoryColumns). (1 ≤ row.cl_from) × (row.cl_from ≤ n))
      (λ row holds. page-range row.cl_from (and_parts (has_page tables row.cl_from) (is_normal (category_title row.cl_to)) holds).0) table passes.alone)

  none-later : (k : ℕ) (row : RedirectColumns) (table : List RedirectColumns) → row.rd_from ≡ k → AllByRecursion (λ (later : RedirectColumns). ltb row.rd_from later.rd_from ≡ true) table → filter (λ (later : RedirectColumns). eqb later.rd_from k) table ≡ []
  none-later k row [] at all = refl
  none-later k row (later ∷ table) at all =
      let under = ltb-true row.rd_from later.rd_from all.0 in
      let other = ne_eqb later.rd_from k (λ same. omega (arith, under, at, same)) in
      rw other (none-later k row table at all.1)

  redirects-of : (k : ℕ) (table : List RedirectColumns) → Pairs (λ (earlier row : RedirectColumns). ltb earlier.rd_from row.rd_from) table
      → map (redirect_row k) (option_to_list (option_map (λ (row : RedirectColumns). row.rd_title) (find (λ (row : RedirectColumns). eqb row.rd_from k) table))) ≡ filter (λ (row : RedirectColumns). eqb row.rd_from k) table
  redirects-of k [] pairs = refl
  redirects-of k (row ∷ table) pairs = elim (cases_Bool (eqb row.rd_from k)) [
    | inl own ↦
        let at = eqb-true row.rd_from k own in
        let same : redirect_row k row.rd_title ≡ row = (λ i. record { rd_from = sym at i; rd_title = row.rd_title }) in
        rw own (ap₂ (λ x xs. x ∷ xs) same (sym (none-later k row table at pairs.0)))
    | inr other ↦ rw other (redirects-of k table pairs.1)
  ]

  rising-redirects : (table : List RedirectColumns) → Pairs (λ (earlier row : RedirectColumns). ltb earlier.rd_from row.rd_from) table → Rising (λ (row : RedirectColumns). row.rd_from) table
  rising-redirects [] pairs = tt
  rising-redirects (row ∷ table) pairs =
      (each-weaker (λ (later : RedirectColumns). ltb row.rd_from later.rd_from ≡ true) (λ (later : RedirectColumns). row.rd_from ≤ later.rd_from) (λ later before. let under = ltb-true row.rd_from later.rd_from before in omega (arith, under)) table pairs.0, rising-redirects table pairs.1)

  redirects-back : rows_of_pages (λ page (rs : PageRows). map (redirect_row page) (option_to_list rs.redirect)) (stored_rows tables) ≡ tables.redirects
  redirects-back =
      let table = tables.redirects in
      let passes = Passes-from_good (λ (earlier row : RedirectColumns). ltb earlier.rd_from row.rd_from) (λ (row : RedirectColumns). has_page tables row.rd_from && is_page_title row.rd_title) (is_good_redirect tables) (λ before row. refl) table keeps.redirects in
      table-back (λ (row : RedirectColumns). row.rd_from) (λ page (rs : PageRows). map (redirect_row page) (option_to_list rs.redirect)) table (λ k low. redirects-of k table passes.paired) (rising-redirects table passes.paired)
      (each-weaker (λ (row : RedirectColumns). (has_page tables row.rd_from && is_page_title row.rd_title) ≡ true) (λ (row : RedirectColumns). (1 ≤ row.rd_from) × (row.rd_from ≤ n))
      (λ row holds. page-range row.rd_from (and_parts (has_page tables row.rd_from) (is_page_title row.rd_title) holds).0) table passes.alone)

  -- ---- the job table

  abbrev is_refresh : JobColumns → Bool
  is_refresh row = bytes_eq row.job_cmd refresh_cmd

  alone-parts : (row : JobColumns) → is_alone_good tables row ≡ true → (is_good_kind tables row ≡ true) × (has_good_params row ≡ true)
  alone-parts row good_row = and_parts (is_good_kind tables row) (has_good_params row) (and_parts (leb 1 row.job_id && ltb row.job_id (job_bound tables.version)) (is_good_kind tables row && has_good_params row) good_row).1

  titles-there : (title : PageTitle) (pages : List PageColumns) → list_any (λ (page : PageColumns). title_eq page.page_title title) pages ≡ true → list_any (λ (page : Page). title_eq page.title title) (map page_of_row pages) ≡ true
  titles-there title [] there = there
  titles-there title (page ∷ pages) there = elim (cases_Bool (title_eq page.page_title title)) [
    | inl first ↦ rw first refl
    | inr other ↦ rw other (titles-there title pages (rw other at there))
  ]

  refresh-back : (row : JobColumns) → is_alone_good tables row ≡ true → is_refresh row ≡ true → (job : RefreshEntry) × ((refresh_of_row tables row ≡ Some job) × (row_of (title_at h) job ≡ row))
  unfolding is_good_kind
  refresh-back row good_row refresh =
      let parts = alone-parts row good_row in
      let there : list_any (λ (page : PageColumns). title_eq page.page_title row.job_title) tables.pages ≡ true = rw refresh at parts.0 in
      let params : eqb (length row.job_params) 0 ≡ true = rw refresh at parts.1 in
      let found = found-title h row.job_title (titles-there row.job_title tables.pages there) in
      let cmd : refresh_cmd ≡ row.job_cmd = sym ((bytes_eq-Decides row.job_cmd refresh_cmd).0 refresh) in
      let empty = no-bytes row.job_params params in (
        record { number = row.job_id; page = found.0; ticket = None },
        (
          rw (refresh, found.1.0) refl,
          λ i. record { job_id = row.job_id; job_cmd = cmd i; job_title = found.1.1 i; job_params = sym empty i },
        ),
      )

  refreshes-back : (rows : List JobColumns) → AllByRecursion (λ row. is_alone_good tables row ≡ true) rows → map (row_of (title_at h)) (filter_map (refresh_of_row tables) rows) ≡ filter is_refresh rows
  refreshes-back [] alone = refl
  refreshes-back (row ∷ rows) alone =
      let later = refreshes-back rows alone.1 in
      elim (cases_Bool (is_refresh row)) [
        | inl refresh ↦ let job = refresh-back row alone.0 refresh in rw (job.1.0, refresh) (ap₂ (λ x xs. x ∷ xs) job.1.1 later)
        | inr other ↦ let none : refresh_of_row tables row ≡ None = rw other refl in rw (none, other) later
      ]

  fan-none : (row : JobColumns) → is_refresh row ≡ true → fan_of_row row ≡ None
  fan-none row refresh =
      let is : row.job_cmd ≡ refresh_cmd = (bytes_eq-Decides row.job_cmd refresh_cmd).0 refresh in
      let not_fan : bytes_eq row.job_cmd fan_cmd ≡ false = ap (λ cmd. bytes_eq cmd fan_cmd) is in
      rw not_fan refl

  fan-back : (row : JobColumns) → is_alone_good tables row ≡ true → is_refresh row ≡ false → (job : FanEntry) × ((fan_of_row row ≡ Some job) × (row_of_fan job ≡ row))
  unfolding is_good_kind
  fan-back row good_row other =
      let parts = alone-parts row good_row in
      let kind : (bytes_eq row.job_cmd fan_cmd && is_normal row.job_title) ≡ true = rw other at parts.0 in
      let fan = (and_parts (bytes_eq row.job_cmd fan_cmd) (is_normal row.job_title) kind).0 in
      let params : is_fan_params row.job_params ≡ true = rw other at parts.1 in
      by fan (fan_params row.job_params) refl params
    where
      by : bytes_eq row.job_cmd fan_cmd ≡ true → (o : Option FanParams) → fan_params row.job_params ≡ o → (elim o as (λ p. Bool) [ None ↦ false | Some ps ↦ leb ps.cursor max_pages ]) ≡ true → (job : FanEntry) × ((fan_of_row row ≡ Some job) × (row_of_fan job ≡ row))
      by fan None is wrong = absurd (false≢true wrong)
      by fan (Some params) is small =
          let cmd : fan_cmd ≡ row.job_cmd = sym ((bytes_eq-Decides row.job_cmd fan_cmd).0 fan) in
          let written = params-back row.job_params params is in (
            record { number = row.job_id; title = row.job_title; reach = params.reach; cursor = params.cursor },
            (
              rw (fan, is) refl,
              λ i. record { job_id = row.job_id; job_cmd = cmd i; job_title = row.job_title; job_params = written i },
            ),
          )

  fans-back : (rows : List JobColumns) → AllByRecursion (λ row. is_alone_good tables row ≡ true) rows → map row_of_fan (filter_map fan_of_row rows) ≡ filter (λ row. not (is_refresh row)) rows
  fans-back [] alone = refl
  fans-back (row ∷ rows) alone =
      let later = fans-back rows alone.1 in
      elim (cases_Bool (is_refresh row)) [
        | inl refresh ↦ let none = fan-none row refresh in rw (none, refresh) later
        | inr other ↦ let job = fan-back row alone.0 other in rw (job.1.0, other) (ap₂ (λ x xs. x ∷ xs) job.1.1 later)
      ]

  below-all : (row : JobColumns) (rows : List JobColumns) → AllByRecursion (λ y. may_follow row y ≡ true) rows → AllByRecursion (λ (y : JobColumns). row.job_id < y.job_id) rows
  below-all row rows all = each-weaker (λ y. may_follow row y ≡ true) (λ (y : JobColumns). row.job_id < y.job_id)
      (λ y follows. ltb-true row.job_id y.job_id (and_parts (ltb row.job_id y.job_id) (not (bytes_eq row.job_cmd (cond (bytes_eq y.job_cmd refresh_cmd) refresh_cmd fan_cmd) && title_eq row.job_title y.job_title)) follows).0) rows all

  ids-rise : (rows : List JobColumns) → Pairs may_follow rows → Rises (map (λ (row : JobColumns). row.job_id) rows)
  ids-rise [] pairs = tt
  ids-rise (row ∷ rows) pairs = (mapped rows (below-all row rows pairs.0), ids-rise rows pairs.1)
    where
      mapped : (rs : List JobColumns) → AllByRecursion (λ (y : JobColumns). row.job_id < y.job_id) rs → AllByRecursion (λ m. row.job_id < m) (map (λ (r : JobColumns). r.job_id) rs)
      mapped [] all = tt
      mapped (r ∷ rs) all = (all.0, mapped rs all.1)

  rows-apart : (rows : List JobColumns) → Pairs may_follow rows → Apart (λ (row : JobColumns). row.job_id) rows
  rows-apart [] pairs = tt
  rows-apart (row ∷ rows) pairs =
      (each-weaker (λ (y : JobColumns). row.job_id < y.job_id) (λ (y : JobColumns). row.job_id ≢ y.job_id) (λ y under same. omega (arith, under, same)) rows (below-all row rows pairs.0), rows-apart rows pairs.1)

  jobs-back : rows_of_jobs (title_at h) (jobs_of_tables tables) ≡ tables.jobs
  jobs-back =
      let rows = tables.jobs in
      let id = λ (row : JobColumns). row.job_id in
      let passes = Passes-from_good may_follow (is_alone_good tables) (is_good_job tables) (job-splits tables) rows keeps.jobs in
      ap₂ (λ xs ys. by_number (λ (row : JobColumns). row.job_id) (xs ++ ys)) (refreshes-back rows passes.alone) (fans-back rows passes.alone)
      ∙ (sym (by_number-parts (λ (row : JobColumns). row.job_id) is_refresh rows (rows-apart rows passes.paired))
      ∙ by_number-rising (λ (row : JobColumns). row.job_id) rows (ids-rise rows passes.paired))

  -- ---- all tables

  -- good tables, with the newest version, are those of the state that they stand for
  pub state-back : tables_of (state_of tables) ≡ record tables { version = newest_version }
  state-back = λ i. record {
    pages = pages-good tables good i;
    revisions = revisions-good tables good i;
    pagelinks = links-back (λ (rs : PageRows). rs.links) tables.pagelinks (λ k. refl) keeps.pagelinks i;
    templatelinks = links-back (λ (rs : PageRows). rs.templates) tables.templatelinks (λ k. refl) keeps.templatelinks i;
    existlinks = links-back (λ (rs : PageRows). rs.exists) tables.existlinks (λ k. refl) keeps.existlinks i;
    categorylinks = categories-back i;
    redirects = redirects-back i;
    jobs = jobs-back i;
    version = newest_version;
  }

  pub opened-newest : tables.version ≡ newest_version → tables_of (opened tables) ≡ tables
  opened-newest newest =
      let other : eqb tables.version 1 ≡ false = ap (λ v. eqb v 1) newest in
      let is : opened tables ≡ reopened (state_of tables) = rw other refl in
      ap tables_of is ∙ (reopened-tables (state_of tables) ∙ (state-back ∙ ap (λ v. record tables { version = v }) (sym newest)))

  pub kept-good : IsKept (state_of tables)
  kept-good = by (eqb tables.version 1) refl
    where
      by : (b : Bool) → eqb tables.version 1 ≡ b → IsKept (state_of tables)
      by true old = IsKept-state_of tables (2 ^ 63 - 1000000) (rw old refl) (omega arith) (omega arith) good
      by false other = IsKept-state_of tables (2 ^ 63) (rw other refl) (omega arith) (omega arith) good

  version-good : (tables.version ≡ 1) ⊎ (tables.version ≡ newest_version)
  version-good = by keeps.version
    where
      by : bad_version tables ≡ None → (tables.version ≡ 1) ⊎ (tables.version ≡ newest_version)
      by none = elim (cases_Bool (eqb tables.version 1)) [
        | inl one ↦ inl (eqb-true tables.version 1 one)
        | inr other ↦ elim (cases_Bool (eqb tables.version 2)) [
          | inl two ↦ inr (eqb-true tables.version 2 two)
          | inr neither ↦ absurd (let e : Some (length tables.redirects + 1) ≡ None = rw (other, neither) at none in cc)
        ]
      ]

  pub migration-makes : Makes tables (migration tables) (tables_of (opened tables))
  migration-makes = elim version-good [
    | inl old ↦
        let first : eqb tables.version 1 ≡ true = ap (λ v. eqb v 1) old in
        let state = state_of tables in
        let pages = range_with_len 1 (length state.history.pages) in
        let newer = record tables { version = newest_version } in
        let set = one-makes tables (set_version newest_version) refl in
        let queued = all_queued-makes (title_at h) (tables_of state) state.jobs pages refl kept-good.numbered in
        let from_newer : Makes newer (refreshes_edits (title_at h) state.jobs pages) (tables_of (all_refreshed state)) = subst (λ t. Makes t (refreshes_edits (title_at h) state.jobs pages) (tables_of (all_refreshed state))) state-back queued in
        let both = then-makes tables newer (tables_of (all_refreshed state)) (set_version newest_version ∷ []) (refreshes_edits (title_at h) state.jobs pages) set from_newer in
        let is : opened tables ≡ reopened (all_refreshed state) = rw first refl in
        let after : tables_of (all_refreshed state) ≡ tables_of (opened tables) = sym (ap tables_of is ∙ reopened-tables (all_refreshed state)) in
        let change : migration tables ≡ set_version newest_version ∷ refreshes_edits (title_at h) state.jobs pages = rw first refl in
        subst (λ made. Makes tables made (tables_of (opened tables))) (sym change) (subst (Makes tables (set_version newest_version ∷ refreshes_edits (title_at h) state.jobs pages)) after both)
    | inr newest ↦
        let other : eqb tables.version 1 ≡ false = ap (λ v. eqb v 1) newest in
        let change : migration tables ≡ [] = rw other refl in
        subst (λ made. Makes tables made (tables_of (opened tables))) (sym change) (subst (Makes tables []) (sym (opened-newest newest)) (nothing-makes tables))
  ]

-- ---- restarts

pub reopened-again : (state : State) → reopened (reopened state) ≡ reopened state
reopened-again state = ap (λ (lists : JobLists). record state { jobs = lists }) (reopened-twice state.jobs)
