-- The jobs of a good job table are such as calls with full limits make.
use Rattle.std.proofs.Common.{◌≡◌, ℕ, zero, suc, ◌+◌, ◌-◌, ◌≤◌, ◌<◌, ◌^◌, true, false, cond, eqb, ltb, leb, not, ◌&&◌, List, [], ◌∷◌, ◌++◌, length, map, fold, max, Option, Some, None, refl, sym, ap, ◌∙◌, inl, inr, subst, arith}
use Rattle.std.specs.Prelude.{slice_get, bytes_eq, nat_eq}
use Rattle.std.specs.List.{AllByRecursion, IsDistinct, filter_map, position_or_len, range_with_len}
use Rattle.std.proofs.lemmas.Bool.{cases_Bool, cond_both, and_parts, not-true, ltb-true, ne_eqb, both_ways}
use Rattle.std.proofs.lemmas.List.Elements.{All-from_recursion}
use Rattle.std.proofs.lemmas.List.Folds.{find_at}
use Rattle.std.proofs.lemmas.Slice.Eq.{bytes_eq-Decides}
use Rattle.wk_text_rules.specs.Titles.{PageTitle, title_eq, is_normal}
use Rattle.wk_page_rules.specs.History.{Page, page_number}
use Rattle.wk_page_rules.specs.Verdict.{max_pages}
use Rattle.wk_table_rules.specs.Rows.{StoreTables, JobColumns}
use Rattle.wk_table_rules.specs.JobTable.{FanParams, refresh_cmd, fan_cmd, fan_params}
use Rattle.wk_table_rules.specs.Stored.{history_of, page_of_row}
use Rattle.wk_table_rules.specs.GoodStore.{IsGood, is_good_job, job_bound, has_good_params, is_fan_params}
use Rattle.wk_table_laws.specs.EachGood.{EachGood}
use Rattle.wk_table_laws.proofs.FirstBad.{KeepsRules-from_good}
use Rattle.wk_table_laws.proofs.JobRows.{is_good_kind, is_alone_good, may_follow, job-splits}
use Rattle.wk_table_laws.proofs.Pairs.{each-append, each-front, each-back, each-weaker, Pairs, Passes-from_good}
use Rattle.wk_table_laws.proofs.SavedPages.{find-passes}
use Rattle.wk_wiki_rules.specs.Jobs.{RefreshEntry, FanEntry, JobLists, IsNumbered, IsOneAPage, IsOneATitle, refresh_queued}
use Rattle.wk_wiki_rules.specs.Steps.{all_queued, next_above, refresh_of_row, fan_of_row, jobs_of_tables}
use Rattle.wk_wiki_rules.proofs.JobLemmas.{IsNumbered-queued, IsOneAPage-all_queued, titles-all_queued}
use Rattle.wk_table_laws.specs.InOrder.{Rises, IsInOrder}
use Rattle.wk_view_laws.proofs.PlanLemmas.{title_eq-true, title_eq-same}
use Rattle.wk_wiki_rules.specs.Tables.{state_of}
use Rattle.wk_wiki_rules.specs.Lives.{all_refreshed, opened}
use Rattle.wk_wiki_laws.proofs.Fanned.{fans-all_queued}
use Rattle.wk_wiki_laws.proofs.GoodOpened.{IsWellFormed-state_of, IsWellFormed-all_refreshed}
use Rattle.wk_wiki_laws.proofs.GoodStores.{history-good, stored-good}
use Rattle.wk_wiki_laws.proofs.TableJobs.{got, low_cursor}
use Rattle.wk_wiki_laws.specs.Kept.{FanFits, IsKept}
use Rattle.wk_wiki_laws.proofs.KeptStates.{few-pages, greatest-within, kept-jobs, next-all_queued, IsKept-reopened}

-- ---- what a row stands for

data Kind (tables : StoreTables) (row : JobColumns) : Type 0 where
  refreshes : (job : RefreshEntry) → refresh_of_row tables row ≡ Some job → fan_of_row row ≡ None → job.number ≡ row.job_id → page_number (history_of tables) row.job_title ≡ Some job.page → bytes_eq row.job_cmd refresh_cmd ≡ true → Kind tables row
  fans : (job : FanEntry) → refresh_of_row tables row ≡ None → fan_of_row row ≡ Some job → job.number ≡ row.job_id → job.title ≡ row.job_title → bytes_eq row.job_cmd refresh_cmd ≡ false → bytes_eq row.job_cmd fan_cmd ≡ true
      → ((params : FanParams) × ((fan_params row.job_params ≡ Some params) × (job.cursor ≡ params.cursor))) → Kind tables row
  neither : refresh_of_row tables row ≡ None → fan_of_row row ≡ None → Kind tables row

kind : (tables : StoreTables) (row : JobColumns) → Kind tables row
kind tables row = elim (cases_Bool (bytes_eq row.job_cmd refresh_cmd)) [
  | inl refresh ↦ by-page refresh (page_number (history_of tables) row.job_title) refl
  | inr other ↦ elim (cases_Bool (bytes_eq row.job_cmd fan_cmd)) [
    | inl fan ↦ by-params other fan (fan_params row.job_params) refl
    | inr none ↦ neither (rw other refl) (rw none refl)
  ]
]
  where
    no-fan : bytes_eq row.job_cmd refresh_cmd ≡ true → fan_of_row row ≡ None
    no-fan refresh =
        let is : row.job_cmd ≡ refresh_cmd = (bytes_eq-Decides row.job_cmd refresh_cmd).0 refresh in
        let not_fan : bytes_eq row.job_cmd fan_cmd ≡ false = ap (λ cmd. bytes_eq cmd fan_cmd) is in
        rw not_fan refl

    by-page : bytes_eq row.job_cmd refresh_cmd ≡ true → (o : Option ℕ) → page_number (history_of tables) row.job_title ≡ o → Kind tables row
    by-page refresh None at = neither (rw (refresh, at) refl) (no-fan refresh)
    by-page refresh (Some page) at = refreshes (record { number = row.job_id; page = page; ticket = None }) (rw (refresh, at) refl) (no-fan refresh) refl at refresh

    by-params : bytes_eq row.job_cmd refresh_cmd ≡ false → bytes_eq row.job_cmd fan_cmd ≡ true → (o : Option FanParams) → fan_params row.job_params ≡ o → Kind tables row
    by-params other fan None at = neither (rw other refl) (rw (fan, at) refl)
    by-params other fan (Some params) at =
        fans (record { number = row.job_id; title = row.job_title; reach = params.reach; cursor = params.cursor }) (rw other refl) (rw (fan, at) refl) refl refl other fan (params, (at, refl))

module _ (tables : StoreTables) where
  abbrev refreshes_of : List JobColumns → List RefreshEntry
  refreshes_of rows = filter_map (refresh_of_row tables) rows

  abbrev fans_of : List JobColumns → List FanEntry
  fans_of rows = filter_map fan_of_row rows

  abbrev refresh_numbers : List JobColumns → List ℕ
  refresh_numbers rows = map (λ (job : RefreshEntry). job.number) (refreshes_of rows)

  abbrev fan_numbers : List JobColumns → List ℕ
  fan_numbers rows = map (λ (job : FanEntry). job.number) (fans_of rows)

  -- what holds of the rows' numbers holds of the jobs'
  numbers-each : (P : ℕ → Type 0) (rows : List JobColumns) → AllByRecursion (λ row. P row.job_id) rows → AllByRecursion P (refresh_numbers rows) × AllByRecursion P (fan_numbers rows)
  numbers-each P [] all = (tt, tt)
  numbers-each P (row ∷ rows) all =
      let later = numbers-each P rows all.1 in
      elim (kind tables row) [
        | refreshes job is none number page cmd ↦ (rw is (subst P (sym number) all.0, later.0), rw none later.1)
        | fans job none is number title cmd fan params ↦ (rw none later.0, rw is (subst P (sym number) all.0, later.1))
        | neither none nothing ↦ (rw none later.0, rw nothing later.1)
      ]

  distinct-insert : (xs ys : List ℕ) (x : ℕ) → IsDistinct nat_eq (xs ++ ys) → AllByRecursion (λ n. nat_eq n x ≡ false) xs → AllByRecursion (λ n. nat_eq x n ≡ false) ys → IsDistinct nat_eq (xs ++ x ∷ ys)
  unfolding IsDistinct
  distinct-insert [] ys x distinct before behind = (behind, distinct)
  distinct-insert (z ∷ xs) ys x distinct before behind = (
    each-append (λ n. nat_eq z n ≡ false) xs (x ∷ ys) (each-front (λ n. nat_eq z n ≡ false) xs ys distinct.0) (before.0, each-back (λ n. nat_eq z n ≡ false) xs ys distinct.0),
    distinct-insert xs ys x distinct.1 before.1 behind,
  )

  below-all : (row : JobColumns) (rows : List JobColumns) → AllByRecursion (λ y. may_follow row y ≡ true) rows → AllByRecursion (λ y. row.job_id < y.job_id) rows
  below-all row [] all = tt
  below-all row (y ∷ rows) all =
      (ltb-true row.job_id y.job_id (and_parts (ltb row.job_id y.job_id) (not (bytes_eq row.job_cmd (cond (bytes_eq y.job_cmd refresh_cmd) refresh_cmd fan_cmd) && title_eq row.job_title y.job_title)) all.0).0, below-all row rows all.1)

  above : (n : ℕ) (ns : List ℕ) → AllByRecursion (λ m. n < m) ns → AllByRecursion (λ m. nat_eq n m ≡ false) ns
  above n [] all = tt
  above n (m ∷ ns) all = (ne_eqb n m (λ same. let low = all.0 in omega (arith, same, low)), above n ns all.1)

  under : (n : ℕ) (ns : List ℕ) → AllByRecursion (λ m. n < m) ns → AllByRecursion (λ m. nat_eq m n ≡ false) ns
  under n [] all = tt
  under n (m ∷ ns) all = (ne_eqb m n (λ same. let low = all.0 in omega (arith, same, low)), under n ns all.1)

  numbers-distinct : (rows : List JobColumns) → Pairs may_follow rows → IsDistinct nat_eq (refresh_numbers rows ++ fan_numbers rows)
  unfolding IsDistinct
  numbers-distinct [] pairs = tt
  numbers-distinct (row ∷ rows) pairs =
      let later = numbers-distinct rows pairs.1 in
      let far = numbers-each (λ m. row.job_id < m) rows (below-all row rows pairs.0) in
      elim (kind tables row) [
        | refreshes job is none number page cmd ↦
            rw (is, none) (
              subst (λ n. AllByRecursion (λ m. nat_eq n m ≡ false) (refresh_numbers rows ++ fan_numbers rows)) (sym number)
                  (each-append (λ m. nat_eq row.job_id m ≡ false) (refresh_numbers rows) (fan_numbers rows) (above row.job_id (refresh_numbers rows) far.0) (above row.job_id (fan_numbers rows) far.1)),
              later,
            )
        | fans job none is number title cmd fan params ↦
            rw (is, none) (subst (λ n. IsDistinct nat_eq (refresh_numbers rows ++ n ∷ fan_numbers rows)) (sym number)
            (distinct-insert (refresh_numbers rows) (fan_numbers rows) row.job_id later (under row.job_id (refresh_numbers rows) far.0) (above row.job_id (fan_numbers rows) far.1)))
        | neither none nothing ↦ rw (none, nothing) later
      ]

  fans-rise : (rows : List JobColumns) → Pairs may_follow rows → Rises (fan_numbers rows)
  fans-rise [] pairs = tt
  fans-rise (row ∷ rows) pairs =
      let later = fans-rise rows pairs.1 in
      let far = numbers-each (λ m. row.job_id < m) rows (below-all row rows pairs.0) in
      elim (kind tables row) [
        | refreshes job is none number page cmd ↦ rw none later
        | fans job none is number title cmd fan params ↦ rw is (subst (λ n. AllByRecursion (λ m. n < m) (fan_numbers rows)) (sym number) far.1, later)
        | neither none nothing ↦ rw nothing later
      ]

  -- ---- pages and titles

  title-of-page : (title : PageTitle) (number : ℕ) → page_number (history_of tables) title ≡ Some number → (page : Page) × ((slice_get (map page_of_row tables.pages) (number - 1) ≡ Some page) × (page.title ≡ title))
  title-of-page title number there =
      let p = λ (page : Page). title_eq page.title title in
      let pages = map page_of_row tables.pages in
      elim (cases_Bool (ltb (position_or_len (λ (page : Page). title_eq page.title title) (map page_of_row tables.pages)) (length (map page_of_row tables.pages)))) [
        | inl within ↦
            let found = got pages (position_or_len p pages) (ltb-true (position_or_len p pages) (length pages) within) in
            let e : Some (position_or_len p pages + 1) ≡ Some number = rw within at there in
            let is : position_or_len p pages + 1 ≡ number = cc in
            let place : position_or_len p pages ≡ number - 1 = omega (arith, is) in
            let passes = (find-passes p pages found.0 (find_at p pages ∙ found.1)).0 in
            (found.0, (subst (λ n. slice_get pages n ≡ Some found.0) place found.1, title_eq-true found.0.title title passes))
        | inr past ↦ absurd (let e : None ≡ Some number = rw past at there in cc)
      ]

  one-title : (a b : PageTitle) (number : ℕ) → page_number (history_of tables) a ≡ Some number → page_number (history_of tables) b ≡ Some number → a ≡ b
  one-title a b number first second =
      let one = title-of-page a number first in
      let two = title-of-page b number second in
      let e : Some one.0 ≡ Some two.0 = sym one.1.0 ∙ two.1.0 in
      let same : one.0 ≡ two.0 = cc in
      sym one.1.1 ∙ (ap (λ (page : Page). page.title) same ∙ two.1.1)

  -- rows of one kind have other titles
  titles-differ : (row y : JobColumns) → may_follow row y ≡ true → bytes_eq row.job_cmd (cond (bytes_eq y.job_cmd refresh_cmd) refresh_cmd fan_cmd) ≡ true → title_eq row.job_title y.job_title ≡ false
  titles-differ row y follows same_kind =
      let parts = and_parts (ltb row.job_id y.job_id) (not (bytes_eq row.job_cmd (cond (bytes_eq y.job_cmd refresh_cmd) refresh_cmd fan_cmd) && title_eq row.job_title y.job_title)) follows in
      let none = not-true (bytes_eq row.job_cmd (cond (bytes_eq y.job_cmd refresh_cmd) refresh_cmd fan_cmd) && title_eq row.job_title y.job_title) parts.1 in
      rw same_kind at none

  pages-behind : (row : JobColumns) (number : ℕ) → bytes_eq row.job_cmd refresh_cmd ≡ true → page_number (history_of tables) row.job_title ≡ Some number → (rows : List JobColumns) → AllByRecursion (λ y. may_follow row y ≡ true) rows
      → AllByRecursion (λ n. nat_eq number n ≡ false) (map (λ (job : RefreshEntry). job.page) (refreshes_of rows))
  pages-behind row number refresh there [] pairs = tt
  pages-behind row number refresh there (y ∷ rows) pairs =
      let later = pages-behind row number refresh there rows pairs.1 in
      elim (kind tables y) [
        | refreshes job is none id page cmd ↦
            let same_kind : bytes_eq row.job_cmd (cond (bytes_eq y.job_cmd refresh_cmd) refresh_cmd fan_cmd) ≡ true = rw cmd refresh in
            let differ = titles-differ row y pairs.0 same_kind in
            rw is (
              ne_eqb number job.page (λ same.
                  let one = one-title row.job_title y.job_title number there (page ∙ ap (λ n. Some n) (sym same)) in
                  let equal : title_eq row.job_title y.job_title ≡ true = subst (λ t. title_eq row.job_title t ≡ true) one (title_eq-same row.job_title) in
                  both_ways (title_eq row.job_title y.job_title) differ equal),
              later,
            )
        | fans job none is id title cmd fan params ↦ rw none later
        | neither none nothing ↦ rw none later
      ]

  pages-distinct : (rows : List JobColumns) → Pairs may_follow rows → IsDistinct nat_eq (map (λ (job : RefreshEntry). job.page) (refreshes_of rows))
  unfolding IsDistinct
  pages-distinct [] pairs = tt
  pages-distinct (row ∷ rows) pairs =
      let later = pages-distinct rows pairs.1 in
      elim (kind tables row) [
        | refreshes job is none number page cmd ↦ rw is (pages-behind row job.page cmd page rows pairs.0, later)
        | fans job none is number title cmd fan params ↦ rw none later
        | neither none nothing ↦ rw none later
      ]

  titles-behind : (row : JobColumns) (named : PageTitle) → named ≡ row.job_title → bytes_eq row.job_cmd fan_cmd ≡ true → (rows : List JobColumns) → AllByRecursion (λ y. may_follow row y ≡ true) rows
      → AllByRecursion (λ t. title_eq named t ≡ false) (map (λ (job : FanEntry). job.title) (fans_of rows))
  titles-behind row named same fan [] pairs = tt
  titles-behind row named same fan (y ∷ rows) pairs =
      let later = titles-behind row named same fan rows pairs.1 in
      elim (kind tables y) [
        | refreshes job is none id page cmd ↦ rw none later
        | fans job none is id title cmd also params ↦
            let same_kind : bytes_eq row.job_cmd (cond (bytes_eq y.job_cmd refresh_cmd) refresh_cmd fan_cmd) ≡ true = rw cmd fan in
            let differ = titles-differ row y pairs.0 same_kind in
            rw is (subst (λ t. title_eq named t ≡ false) (sym title) (subst (λ t. title_eq t y.job_title ≡ false) (sym same) differ), later)
        | neither none nothing ↦ rw nothing later
      ]

  titles-distinct : (rows : List JobColumns) → Pairs may_follow rows → IsDistinct title_eq (map (λ (job : FanEntry). job.title) (fans_of rows))
  unfolding IsDistinct
  titles-distinct [] pairs = tt
  titles-distinct (row ∷ rows) pairs =
      let later = titles-distinct rows pairs.1 in
      elim (kind tables row) [
        | refreshes job is none number page cmd ↦ rw none later
        | fans job none is number title cmd fan params ↦ rw is (titles-behind row job.title title fan rows pairs.0, later)
        | neither none nothing ↦ rw nothing later
      ]

  leb-true : (a b : ℕ) → leb a b ≡ true → a ≤ b
  leb-true a b at = grind arith

  fans-fit : (rows : List JobColumns) → AllByRecursion (λ row. is_alone_good tables row ≡ true) rows → AllByRecursion (FanFits max_pages) (fans_of rows)
  unfolding is_good_kind
  fans-fit [] alone = tt
  fans-fit (row ∷ rows) alone =
      let later = fans-fit rows alone.1 in
      elim (kind tables row) [
        | refreshes job is none number page cmd ↦ rw none later
        | fans job none is number title cmd fan params ↦
            let parts = and_parts (leb 1 row.job_id && ltb row.job_id (job_bound tables.version)) (is_good_kind tables row && has_good_params row) alone.0 in
            let two = and_parts (is_good_kind tables row) (has_good_params row) parts.1 in
            let kind_good : (bytes_eq row.job_cmd fan_cmd && is_normal row.job_title) ≡ true = rw cmd at two.0 in
            let normal_one = (and_parts (bytes_eq row.job_cmd fan_cmd) (is_normal row.job_title) kind_good).1 in
            let good_params : is_fan_params row.job_params ≡ true = rw cmd at two.1 in
            let small : leb params.0.cursor max_pages ≡ true = sym (ap low_cursor params.1.0) ∙ good_params in
            let low = leb-true params.0.cursor max_pages small in
            rw is ((subst (λ t. is_normal t ≡ true) (sym title) normal_one, subst (λ n. n ≤ max_pages) (sym params.1.1) low), later)
        | neither none nothing ↦ rw nothing later
      ]

  ids-bounded : (bound : ℕ) → job_bound tables.version ≡ bound → (rows : List JobColumns) → AllByRecursion (λ row. is_alone_good tables row ≡ true) rows → AllByRecursion (λ (row : JobColumns). (1 ≤ row.job_id) × (row.job_id < bound)) rows
  ids-bounded bound is [] alone = tt
  ids-bounded bound is (row ∷ rows) alone =
      let parts = and_parts (leb 1 row.job_id && ltb row.job_id (job_bound tables.version)) (is_good_kind tables row && has_good_params row) alone.0 in
      let two = and_parts (leb 1 row.job_id) (ltb row.job_id (job_bound tables.version)) parts.0 in
      ((leb-true 1 row.job_id two.0, subst (λ n. row.job_id < n) is (ltb-true row.job_id (job_bound tables.version) two.1)), ids-bounded bound is rows alone.1)

  -- ---- the jobs of the table

  rising-from : (start : ℕ) (ns : List ℕ) → start ≤ fold max start ns
  rising-from start [] = omega arith
  rising-from start (n ∷ ns) = let later = rising-from (max start n) ns in omega (arith, later)

  each-under : (start : ℕ) (rows : List JobColumns) → AllByRecursion (λ (row : JobColumns). row.job_id ≤ fold max start (map (λ (r : JobColumns). r.job_id) rows)) rows
  each-under start [] = tt
  each-under start (row ∷ rows) = (let low = rising-from (max start row.job_id) (map (λ (r : JobColumns). r.job_id) rows) in omega (arith, low), each-under (max start row.job_id) rows)

  id-numbers : (P : ℕ → Type 0) (rows : List JobColumns) → AllByRecursion (λ row. P row.job_id) rows → AllByRecursion P (map (λ (r : JobColumns). r.job_id) rows)
  id-numbers P [] all = tt
  id-numbers P (row ∷ rows) all = (all.0, id-numbers P rows all.1)

  both : (P Q : JobColumns → Type 0) (rows : List JobColumns) → AllByRecursion P rows → AllByRecursion Q rows → AllByRecursion (λ row. P row × Q row) rows
  both P Q [] ps qs = tt
  both P Q (row ∷ rows) ps qs = ((ps.0, qs.0), both P Q rows ps.1 qs.1)

  pub record AreGoodJobs (bound : ℕ) (lists : JobLists) : Type 0 where
    pub numbered : IsNumbered lists
    pub one_page : IsOneAPage lists
    pub one_title : IsOneATitle lists
    pub in_order : IsInOrder lists
    pub next : lists.next ≤ bound
    pub fits : AllByRecursion (FanFits max_pages) lists.fans

  pub jobs-of-good : (bound : ℕ) → job_bound tables.version ≡ bound → 1 ≤ bound → EachGood (is_good_job tables) tables.jobs → AreGoodJobs bound (jobs_of_tables tables)
  jobs-of-good bound is positive good =
      let rows = tables.jobs in
      let passes = Passes-from_good may_follow (is_alone_good tables) (is_good_job tables) (job-splits tables) rows good in
      let ids = ids-bounded bound is rows passes.alone in
      let next = next_above (map (λ (row : JobColumns). row.job_id) rows) in
      let known = each-weaker (λ (row : JobColumns). ((1 ≤ row.job_id) × (row.job_id < bound)) × (row.job_id ≤ fold max 0 (map (λ (r : JobColumns). r.job_id) rows))) (λ (row : JobColumns). (1 ≤ row.job_id) × (row.job_id < next))
      (λ row holds. (holds.0.0, let low = holds.1 in omega (arith, low))) rows (both (λ (row : JobColumns). (1 ≤ row.job_id) × (row.job_id < bound)) (λ (row : JobColumns). row.job_id ≤ fold max 0 (map (λ (r : JobColumns). r.job_id) rows)) rows ids (each-under 0 rows)) in
      let all = numbers-each (λ n. (1 ≤ n) × (n < next)) rows known in
      let greatest = greatest-within bound 0 (map (λ (r : JobColumns). r.job_id) rows) (omega (arith, positive)) (id-numbers (λ n. (1 ≤ n) × (n < bound)) rows ids) in
      record {
        numbered = record {
          own = numbers-distinct rows passes.paired;
          bounded = All-from_recursion (λ n. (1 ≤ n) × (n < next)) (refresh_numbers rows ++ fan_numbers rows) (each-append (λ n. (1 ≤ n) × (n < next)) (refresh_numbers rows) (fan_numbers rows) all.0 all.1);
          positive = omega arith;
        };
        one_page = pages-distinct rows passes.paired;
        one_title = titles-distinct rows passes.paired;
        in_order = fans-rise rows passes.paired;
        next = omega (arith, greatest);
        fits = fans-fit rows passes.alone;
      }

-- ---- the wiki that is opened

numbered-all : (lists : JobLists) (pages : List ℕ) → IsNumbered lists → IsNumbered (all_queued lists pages)
numbered-all lists [] numbered = numbered
numbered-all lists (page ∷ pages) numbered = numbered-all (refresh_queued lists page) pages (IsNumbered-queued lists page numbered)

length-range : (a n : ℕ) → length (range_with_len a n) ≡ n
length-range a zero = refl
length-range a (suc n) = ap suc (length-range (a + 1) n)

pub IsKept-state_of : (tables : StoreTables) (bound : ℕ) → job_bound tables.version ≡ bound → 1 ≤ bound → bound ≤ 2 ^ 63 → IsGood tables → IsKept (state_of tables)
IsKept-state_of tables bound is positive small good =
    let keeps = KeepsRules-from_good tables good in
    let jobs = jobs-of-good tables bound is positive keeps.jobs in
    record {
      formed = IsWellFormed-state_of tables good;
      history = history-good tables good;
      links = stored-good tables keeps;
      numbered = jobs.numbered;
      one_page = jobs.one_page;
      one_title = jobs.one_title;
      in_order = jobs.in_order;
      next = let low = jobs.next in omega (arith, low, small);
      fans = jobs.fits;
    }

IsKept-all_refreshed : (tables : StoreTables) → eqb tables.version 1 ≡ true → IsGood tables → IsKept (all_refreshed (state_of tables))
IsKept-all_refreshed tables old good =
    let state = state_of tables in
    let bound : ℕ = 2 ^ 63 - 1000000 in
    let is : job_bound tables.version ≡ 2 ^ 63 - 1000000 = rw old refl in
    let keeps = IsKept-state_of tables (2 ^ 63 - 1000000) is (omega arith) (omega arith) good in
    let jobs = jobs-of-good tables (2 ^ 63 - 1000000) is (omega arith) (KeepsRules-from_good tables good).jobs in
    let n = length state.history.pages in
    let pages = range_with_len 1 n in
    let lists = all_queued state.jobs pages in
    let more = next-all_queued state.jobs pages in
    let many = length-range 1 n in
    let few = few-pages state.history keeps.history in
    let low = jobs.next in
    let order : IsInOrder lists = rw (fans-all_queued state.jobs pages) keeps.in_order in
    let one : IsOneATitle lists = rw (titles-all_queued state.jobs pages) keeps.one_title in
    let fits : AllByRecursion (FanFits max_pages) lists.fans = rw (fans-all_queued state.jobs pages) keeps.fans in
    kept-jobs state lists keeps (IsWellFormed-all_refreshed state keeps.formed) (numbered-all state.jobs pages keeps.numbered) (IsOneAPage-all_queued state.jobs pages keeps.one_page) one order
    (omega (arith, more, many, few, low)) fits

pub IsKept-opened : (tables : StoreTables) → IsGood tables → IsKept (opened tables)
IsKept-opened tables good =
    IsKept-reopened (cond (eqb tables.version 1) (all_refreshed (state_of tables)) (state_of tables))
    (cond_both (eqb tables.version 1) (all_refreshed (state_of tables)) (state_of tables) IsKept
    (λ old. IsKept-all_refreshed tables old good)
    (λ other. IsKept-state_of tables (2 ^ 63) (rw other refl) (omega arith) (omega arith) good))
