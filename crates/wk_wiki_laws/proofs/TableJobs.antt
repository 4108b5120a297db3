-- The job table of a state is good where its jobs are such as calls with full limits make.
use Rattle.std.proofs.Common.{◌≡◌, ◌≢◌, ℕ, zero, suc, ◌+◌, ◌-◌, ◌≤◌, ◌<◌, ◌^◌, Bool, true, false, cond, eqb, ltb, leb, not, ◌&&◌, List, [], ◌∷◌, ◌++◌, length, map, fold, Option, Some, None, refl, sym, ap, ◌∙◌, inl, inr, subst, arith}
use Rattle.std.specs.Prelude.{slice_get, bytes_eq, nat_eq}
use Rattle.std.specs.List.{AllByRecursion, IsDistinct, list_any, enumerate_from}
use Rattle.std.proofs.lemmas.Bool.{cases_Bool, and_parts, and_from, or_left, or_right, eqb-false, ne_eqb, ltb-true, ltb-false, lt-ltb, le-leb}
use Rattle.std.proofs.lemmas.List.Elements.{All-from_recursion, recursion_from_All}
use Rattle.std.proofs.lemmas.List.Sorted.{All-permutation}
use Rattle.wk_text_rules.specs.Titles.{title_eq, is_normal}
use Rattle.wk_page_rules.specs.History.{History, Page}
use Rattle.wk_table_rules.specs.Rows.{StoreTables, PageColumns, JobColumns}
use Rattle.wk_table_rules.specs.JobTable.{FanParams, refresh_cmd, fan_cmd, refresh_row}
use Rattle.wk_page_rules.specs.Verdict.{max_pages}
use Rattle.wk_table_rules.specs.GoodStore.{is_good_job, has_good_params}
use Rattle.wk_table_laws.specs.EachGood.{EachGood}
use Rattle.wk_table_laws.proofs.JobParams.{fan_params-params_text}
use Rattle.wk_table_laws.proofs.JobRows.{is_good_kind, is_alone_good, may_follow, job-splits}
use Rattle.wk_table_laws.proofs.Pairs.{each-append, each-front, each-back, Pairs, EachGood-from_passes}
use Rattle.wk_wiki_rules.specs.Jobs.{RefreshEntry, FanEntry, IsOneAPage, IsOneATitle, IsNumbered, pages_of}
use Rattle.wk_wiki_rules.specs.Steps.{placed, by_number}
use Rattle.wk_wiki_rules.proofs.JobLemmas.{by_number-permutes}
use Rattle.wk_table_laws.proofs.Order.{each-placed}
use Rattle.wk_view_laws.proofs.PlanLemmas.{title_eq-same}
use Rattle.wk_wiki_rules.specs.States.{State, title_at}
use Rattle.wk_wiki_rules.specs.Tables.{tables_of, page_row}
use Rattle.wk_wiki_rules.specs.TableChanges.{row_of_fan}
use Rattle.wk_wiki_laws.proofs.SavedHistory.{apart-eq, eq-apart}
use Rattle.wk_wiki_laws.specs.Kept.{FanFits}
use Rattle.wk_wiki_laws.proofs.Formed.{Within}

-- the params were read, and their cursor is low
abbrev pub low_cursor : Option FanParams → Bool
low_cursor read = elim read [ None ↦ false | Some params ↦ leb params.cursor max_pages ]

-- ---- rows that stand in order

abbrev number_of_row : JobColumns → ℕ
number_of_row row = row.job_id

abbrev apart : JobColumns → JobColumns → Bool
apart earlier job = not (bytes_eq earlier.job_cmd (cond (bytes_eq job.job_cmd refresh_cmd) refresh_cmd fan_cmd) && title_eq earlier.job_title job.job_title)

-- the rows have other numbers, and aren't of one kind and one title
abbrev Apart : JobColumns → JobColumns → Type 0
Apart x y = (x.job_id ≢ y.job_id) × ((apart x y ≡ true) × (apart y x ≡ true))

follows : (x y : JobColumns) → x.job_id < y.job_id → apart x y ≡ true → may_follow x y ≡ true
follows x y below differ = and_from (ltb x.job_id y.job_id) (apart x y) (lt-ltb x.job_id y.job_id below) differ

behind-all : (row new : JobColumns) (rows : List JobColumns) → new.job_id < row.job_id → AllByRecursion (λ y. may_follow row y ≡ true) rows → AllByRecursion (λ y. Apart y new) rows → AllByRecursion (λ y. may_follow new y ≡ true) rows
behind-all row new [] below pairs all = tt
behind-all row new (y ∷ rows) below pairs all =
    let next = ltb-true row.job_id y.job_id (and_parts (ltb row.job_id y.job_id) (apart row y) pairs.0).0 in
    (follows new y (omega (arith, below, next)) all.0.1.1, behind-all row new rows below pairs.1 all.1)

rising-placed : (rows : List JobColumns) (new : JobColumns) → Pairs may_follow rows → AllByRecursion (λ row. Apart row new) rows → Pairs may_follow (placed number_of_row rows new)
rising-placed [] new pairs all = (tt, tt)
rising-placed (row ∷ rows) new pairs all = elim (cases_Bool (ltb new.job_id row.job_id)) [
  | inl before ↦
      let below = ltb-true new.job_id row.job_id before in
      rw before ((follows new row below all.0.1.1, behind-all row new rows below pairs.0 all.1), pairs)
  | inr behind ↦
      let not_below = ltb-false new.job_id row.job_id behind in
      let other = all.0.0 in
      rw behind (
        each-placed number_of_row (λ y. may_follow row y ≡ true) rows new (follows row new (omega (arith, not_below, other)) all.0.1.0) pairs.0,
        rising-placed rows new pairs.1 all.1,
      )
]

AllApart : List JobColumns → Type 0
AllApart [] = Unit {0}
AllApart (row ∷ rows) = AllByRecursion (λ y. Apart row y) rows × AllApart rows

across-more : (before : List JobColumns) (row : JobColumns) (rest : List JobColumns) → AllByRecursion (λ new. AllByRecursion (λ y. Apart y new) before) rest → AllByRecursion (λ new. Apart row new) rest
    → AllByRecursion (λ new. AllByRecursion (λ y. Apart y new) (placed number_of_row before row)) rest
across-more before row [] all own = tt
across-more before row (new ∷ rest) all own = (each-placed number_of_row (λ y. Apart y new) before row own.0 all.0, across-more before row rest all.1 own.1)

rising-fold : (before rows : List JobColumns) → Pairs may_follow before → AllByRecursion (λ new. AllByRecursion (λ y. Apart y new) before) rows → AllApart rows → Pairs may_follow (fold (placed number_of_row) before rows)
unfolding AllApart
rising-fold before [] pairs across all = pairs
rising-fold before (row ∷ rows) pairs across all =
    rising-fold (placed number_of_row before row) rows (rising-placed before row pairs across.0) (across-more before row rows across.1 all.0) all.1

AllApart-append : (xs ys : List JobColumns) → AllApart xs → AllApart ys → AllByRecursion (λ x. AllByRecursion (λ y. Apart x y) ys) xs → AllApart (xs ++ ys)
unfolding AllApart
AllApart-append [] ys front back across = back
AllApart-append (x ∷ xs) ys front back across = (each-append (λ y. Apart x y) xs ys front.0 across.0, AllApart-append xs ys front.1 back across.1)

-- ---- pages by their titles

pub at-map : {X Y : Type 0} (Q : Y → Type 0) (f : X → Y) (xs : List X) (place : ℕ) (x : X) → AllByRecursion Q (map f xs) → slice_get xs place ≡ Some x → Q (f x)
at-map Q f [] place x all there = absurd (let e : None ≡ Some x = there in cc)
at-map Q f (y ∷ xs) zero x all there = let is : y ≡ x = (let e : Some y ≡ Some x = there in cc) in subst (λ z. Q (f z)) is all.0
at-map Q f (y ∷ xs) (suc place) x all there = at-map Q f xs place x all.1 there

pub one-place : (pages : List Page) (i j : ℕ) (a b : Page) → IsDistinct title_eq (map (λ (p : Page). p.title) pages) → slice_get pages i ≡ Some a → slice_get pages j ≡ Some b → a.title ≡ b.title → i ≡ j
unfolding IsDistinct
one-place [] i j a b distinct at_i at_j same = absurd (let e : None ≡ Some a = at_i in cc)
one-place (p ∷ pages) zero zero a b distinct at_i at_j same = refl
one-place (p ∷ pages) zero (suc j) a b distinct at_i at_j same =
    let is : p ≡ a = (let e : Some p ≡ Some a = at_i in cc) in
    let differ = at-map (λ t. title_eq p.title t ≡ false) (λ (q : Page). q.title) pages j b distinct.0 at_j in
    absurd (eq-apart p.title b.title differ (ap (λ (q : Page). q.title) is ∙ same))
one-place (p ∷ pages) (suc i) zero a b distinct at_i at_j same =
    let is : p ≡ b = (let e : Some p ≡ Some b = at_j in cc) in
    let differ = at-map (λ t. title_eq p.title t ≡ false) (λ (q : Page). q.title) pages i a distinct.0 at_i in
    absurd (eq-apart p.title a.title differ (ap (λ (q : Page). q.title) is ∙ sym same))
one-place (p ∷ pages) (suc i) (suc j) a b distinct at_i at_j same = ap suc (one-place pages i j a b distinct.1 at_i at_j same)

pub got : {X : Type 0} (xs : List X) (place : ℕ) → place < length xs → (x : X) × (slice_get xs place ≡ Some x)
got [] place below = absurd (omega (arith, below))
got (x ∷ xs) zero below = (x, refl)
got (x ∷ xs) (suc place) below = got xs place (omega (arith, below))

pub page-at : (h : History) (number : ℕ) → Within (length h.pages) number → (page : Page) × ((slice_get h.pages (number - 1) ≡ Some page) × (title_at h number ≡ page.title))
page-at h number within =
    let found = got h.pages (number - 1) (omega (arith, within.0, within.1)) in
    let low = within.0 in
    let positive : eqb number 0 ≡ false = ne_eqb number 0 (λ none. omega (arith, none, low)) in
    (found.0, (found.1, rw (positive, found.1) refl))

titles-apart : (h : History) (m n : ℕ) → IsDistinct title_eq (map (λ (p : Page). p.title) h.pages) → Within (length h.pages) m → Within (length h.pages) n → m ≢ n → title_at h m ≢ title_at h n
titles-apart h m n distinct first second other same =
    let one = page-at h m first in
    let two = page-at h n second in
    let place = one-place h.pages (m - 1) (n - 1) one.0 two.0 distinct one.1.0 two.1.0 (sym one.1.1 ∙ same ∙ two.1.1) in
    other (omega (arith, first.0, second.0, place))

-- ---- the rows of the jobs

number-apart : (n m : ℕ) → nat_eq n m ≡ false → n ≢ m
number-apart n m differ = eqb-false n m differ

abbrev row_of : History → RefreshEntry → JobColumns
row_of h job = refresh_row job.number (title_at h job.page)

module _ (h : History) (distinct : IsDistinct title_eq (map (λ (p : Page). p.title) h.pages)) where
  refresh-apart : (a b : RefreshEntry) → nat_eq a.number b.number ≡ false → a.page ≢ b.page → Within (length h.pages) a.page → Within (length h.pages) b.page → Apart (row_of h a) (row_of h b)
  refresh-apart a b number page first second =
      let other = titles-apart h a.page b.page distinct first second page in (
        number-apart a.number b.number number,
        (
          rw (apart-eq (title_at h a.page) (title_at h b.page) other) refl,
          rw (apart-eq (title_at h b.page) (title_at h a.page) (λ same. other (sym same))) refl,
        ),
      )

  first-apart : (job : RefreshEntry) (jobs : List RefreshEntry) → AllByRecursion (λ n. nat_eq job.number n ≡ false) (map (λ (j : RefreshEntry). j.number) jobs) → AllByRecursion (λ n. nat_eq job.page n ≡ false) (map (λ (j : RefreshEntry). j.page) jobs)
      → Within (length h.pages) job.page → AllByRecursion (Within (length h.pages)) (map (λ (j : RefreshEntry). j.page) jobs) → AllByRecursion (λ y. Apart (row_of h job) y) (map (row_of h) jobs)
  first-apart job [] numbers pages own within = tt
  first-apart job (next ∷ jobs) numbers pages own within =
      (refresh-apart job next numbers.0 (number-apart job.page next.page pages.0) own within.0, first-apart job jobs numbers.1 pages.1 own within.1)

  refreshes-apart : (jobs : List RefreshEntry) (others : List ℕ) → IsDistinct nat_eq (map (λ (j : RefreshEntry). j.number) jobs ++ others) → IsDistinct nat_eq (map (λ (j : RefreshEntry). j.page) jobs)
      → AllByRecursion (Within (length h.pages)) (map (λ (j : RefreshEntry). j.page) jobs) → AllApart (map (row_of h) jobs)
  unfolding IsDistinct AllApart
  refreshes-apart [] others numbers pages within = tt
  refreshes-apart (job ∷ jobs) others numbers pages within = (
    first-apart job jobs (each-front (λ n. nat_eq job.number n ≡ false) (map (λ (j : RefreshEntry). j.number) jobs) others numbers.0) pages.0 within.0 within.1,
    refreshes-apart jobs others numbers.1 pages.1 within.1,
  )

  kinds-apart : (job : RefreshEntry) (fans : List FanEntry) → AllByRecursion (λ n. nat_eq job.number n ≡ false) (map (λ (f : FanEntry). f.number) fans) → AllByRecursion (λ y. Apart (row_of h job) y) (map row_of_fan fans)
  kinds-apart job [] numbers = tt
  kinds-apart job (fan ∷ fans) numbers = ((number-apart job.number fan.number numbers.0, (refl, refl)), kinds-apart job fans numbers.1)

  all-kinds-apart : (jobs : List RefreshEntry) (fans : List FanEntry) → IsDistinct nat_eq (map (λ (j : RefreshEntry). j.number) jobs ++ map (λ (f : FanEntry). f.number) fans)
      → AllByRecursion (λ x. AllByRecursion (λ y. Apart x y) (map row_of_fan fans)) (map (row_of h) jobs)
  unfolding IsDistinct
  all-kinds-apart [] fans numbers = tt
  all-kinds-apart (job ∷ jobs) fans numbers = (
    kinds-apart job fans (each-back (λ n. nat_eq job.number n ≡ false) (map (λ (j : RefreshEntry). j.number) jobs) (map (λ (f : FanEntry). f.number) fans) numbers.0),
    all-kinds-apart jobs fans numbers.1,
  )

first-fan-apart : (fan : FanEntry) (fans : List FanEntry) → AllByRecursion (λ n. nat_eq fan.number n ≡ false) (map (λ (f : FanEntry). f.number) fans) → AllByRecursion (λ t. title_eq fan.title t ≡ false) (map (λ (f : FanEntry). f.title) fans)
    → AllByRecursion (λ y. Apart (row_of_fan fan) y) (map row_of_fan fans)
first-fan-apart fan [] numbers titles = tt
first-fan-apart fan (next ∷ fans) numbers titles =
    let other = eq-apart fan.title next.title titles.0 in (
      (
        number-apart fan.number next.number numbers.0,
        (rw titles.0 refl, rw (apart-eq next.title fan.title (λ same. other (sym same))) refl),
      ),
      first-fan-apart fan fans numbers.1 titles.1,
    )

fans-apart : (fans : List FanEntry) → IsDistinct nat_eq (map (λ (f : FanEntry). f.number) fans) → IsDistinct title_eq (map (λ (f : FanEntry). f.title) fans) → AllApart (map row_of_fan fans)
unfolding IsDistinct AllApart
fans-apart [] numbers titles = tt
fans-apart (fan ∷ fans) numbers titles = (first-fan-apart fan fans numbers.0 titles.0, fans-apart fans numbers.1 titles.1)

distinct-back : (xs ys : List ℕ) → IsDistinct nat_eq (xs ++ ys) → IsDistinct nat_eq ys
unfolding IsDistinct
distinct-back [] ys distinct = distinct
distinct-back (x ∷ xs) ys distinct = distinct-back xs ys distinct.1

-- ---- each row

named-there : (h : History) (a : ℕ) (pages : List Page) (place : ℕ) (page : Page) → slice_get pages place ≡ Some page → list_any (λ (row : PageColumns). title_eq row.page_title page.title) (map (page_row h) (enumerate_from a pages)) ≡ true
named-there h a [] place page there = absurd (let e : None ≡ Some page = there in cc)
named-there h a (p ∷ pages) zero page there =
    let is : p ≡ page = (let e : Some p ≡ Some page = there in cc) in
    or_left (title_eq p.title page.title) (list_any (λ (row : PageColumns). title_eq row.page_title page.title) (map (page_row h) (enumerate_from (a + 1) pages)))
    (subst (λ (q : Page). title_eq q.title page.title ≡ true) (sym is) (title_eq-same page.title))
named-there h a (p ∷ pages) (suc place) page there =
    or_right (title_eq p.title page.title) (list_any (λ (row : PageColumns). title_eq row.page_title page.title) (map (page_row h) (enumerate_from (a + 1) pages)))
    (named-there h (a + 1) pages place page there)

module _ (state : State) (bound : state.jobs.next ≤ 2 ^ 63) where
  abbrev tables : StoreTables
  tables = tables_of state

  abbrev Bounded : ℕ → Type 0
  Bounded number = (1 ≤ number) × (number < state.jobs.next)

  number-good : (number : ℕ) → Bounded number → (leb 1 number && ltb number (2 ^ 63)) ≡ true
  number-good number bounded = and_from (leb 1 number) (ltb number (2 ^ 63)) (le-leb 1 number bounded.0) (lt-ltb number (2 ^ 63) (let below = bounded.1 in omega (arith, below, bound)))

  refresh-alone : (job : RefreshEntry) → Bounded job.number → Within (length state.history.pages) job.page → is_alone_good tables (row_of state.history job) ≡ true
  unfolding is_good_kind
  refresh-alone job bounded within =
      let found = page-at state.history job.page within in
      let named : list_any (λ (row : PageColumns). title_eq row.page_title (title_at state.history job.page)) tables.pages ≡ true =
      subst (λ t. list_any (λ (row : PageColumns). title_eq row.page_title t) tables.pages ≡ true) (sym found.1.1) (named-there state.history 1 state.history.pages (job.page - 1) found.0 found.1.0) in
      and_from (leb 1 job.number && ltb job.number (2 ^ 63)) (list_any (λ (row : PageColumns). title_eq row.page_title (title_at state.history job.page)) tables.pages && true) (number-good job.number bounded)
      (and_from (list_any (λ (row : PageColumns). title_eq row.page_title (title_at state.history job.page)) tables.pages) true named refl)

  fan-alone : (fan : FanEntry) → Bounded fan.number → FanFits max_pages fan → is_alone_good tables (row_of_fan fan) ≡ true
  unfolding is_good_kind
  fan-alone fan bounded fits =
      let low = fits.1 in
      let read = fan_params-params_text (record { reach = fan.reach; cursor = fan.cursor }) (omega (arith, low)) in
      let small : leb fan.cursor max_pages ≡ true = le-leb fan.cursor max_pages low in
      let params : has_good_params (row_of_fan fan) ≡ true = ap low_cursor read ∙ small in
      and_from (leb 1 fan.number && ltb fan.number (2 ^ 63)) (is_normal fan.title && has_good_params (row_of_fan fan)) (number-good fan.number bounded)
      (and_from (is_normal fan.title) (has_good_params (row_of_fan fan)) fits.0 params)

  refreshes-alone : (jobs : List RefreshEntry) → AllByRecursion Bounded (map (λ (j : RefreshEntry). j.number) jobs) → AllByRecursion (Within (length state.history.pages)) (map (λ (j : RefreshEntry). j.page) jobs)
      → AllByRecursion (λ row. is_alone_good tables row ≡ true) (map (row_of state.history) jobs)
  refreshes-alone [] bounded within = tt
  refreshes-alone (job ∷ jobs) bounded within = (refresh-alone job bounded.0 within.0, refreshes-alone jobs bounded.1 within.1)

  fans-alone : (fans : List FanEntry) → AllByRecursion Bounded (map (λ (f : FanEntry). f.number) fans) → AllByRecursion (FanFits max_pages) fans → AllByRecursion (λ row. is_alone_good tables row ≡ true) (map row_of_fan fans)
  fans-alone [] bounded fits = tt
  fans-alone (fan ∷ fans) bounded fits = (fan-alone fan bounded.0 fits.0, fans-alone fans bounded.1 fits.1)

  pub jobs-good : IsDistinct title_eq (map (λ (p : Page). p.title) state.history.pages) → AllByRecursion (Within (length state.history.pages)) (pages_of state.jobs) → IsNumbered state.jobs → IsOneAPage state.jobs → IsOneATitle state.jobs
      → AllByRecursion (λ (fan : FanEntry). (is_normal fan.title ≡ true) × (fan.cursor ≤ max_pages)) state.jobs.fans → EachGood (is_good_job tables) (tables_of state).jobs
  jobs-good distinct within numbered one_page one_title fits =
      let refreshes = state.jobs.refreshes in
      let fans = state.jobs.fans in
      let rows = map (row_of state.history) refreshes ++ map row_of_fan fans in
      let first = map (λ (j : RefreshEntry). j.number) refreshes in
      let second = map (λ (f : FanEntry). f.number) fans in
      let bounded = recursion_from_All Bounded (first ++ second) numbered.bounded in
      let P = λ (row : JobColumns). is_alone_good tables row ≡ true in
      let alone = each-append P (map (row_of state.history) refreshes) (map row_of_fan fans)
      (refreshes-alone refreshes (each-front Bounded first second bounded) within)
      (fans-alone fans (each-back Bounded first second bounded) fits) in
      let all = AllApart-append (map (row_of state.history) refreshes) (map row_of_fan fans)
      (refreshes-apart state.history distinct refreshes second numbered.own one_page within)
      (fans-apart fans (distinct-back first second numbered.own) one_title)
      (all-kinds-apart state.history distinct refreshes fans numbered.own) in
      EachGood-from_passes may_follow (is_alone_good tables) (is_good_job tables) (job-splits tables) (by_number number_of_row rows) (record {
        alone = recursion_from_All P (by_number number_of_row rows) (All-permutation P rows (by_number number_of_row rows) (by_number-permutes number_of_row rows) (All-from_recursion P rows alone));
        paired = rising-fold [] rows tt (nothing rows) all;
      })
    where
      nothing : (rest : List JobColumns) → AllByRecursion (λ new. AllByRecursion (λ y. Apart y new) []) rest
      nothing [] = tt
      nothing (new ∷ rest) = (tt, nothing rest)
