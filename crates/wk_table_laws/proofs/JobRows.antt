-- The job table stays good where a job is added, changed or dropped, and where the version rises.
use Rattle.std.proofs.Common.{◌≡◌, ℕ, zero, suc, ◌-◌, ◌^◌, ◌<◌, Bool, true, false, cond, eqb, ltb, leb, not, ◌&&◌, ◌||◌, List, [], ◌∷◌, ◌++◌, length, set, Some, None, refl, sym, ap, ◌∙◌, inl, inr, subst, arith}
use Rattle.std.specs.Prelude.{bytes_eq, slice_get, position}
use Rattle.std.specs.List.{AllByRecursion, list_all, list_any, position_or_len, remove}
use Rattle.std.proofs.lemmas.Bool.{cases_Bool, and_parts, and_from, ltb-true, lt-ltb}
use Rattle.std.proofs.lemmas.List.Folds.{find_at}
use Rattle.wk_text_rules.specs.Titles.{title_eq, is_normal}
use Rattle.wk_table_rules.specs.Rows.{StoreTables, JobColumns}
use Rattle.wk_table_rules.specs.Changes.{edited, add_job, set_job, drop_job, set_version, with_job, without_job}
use Rattle.wk_table_rules.specs.JobTable.{refresh_cmd, fan_cmd, fan_params}
use Rattle.wk_page_rules.specs.Verdict.{max_pages}
use Rattle.wk_table_rules.specs.GoodStore.{stands_already, is_good_number, is_good_refresh, is_good_fan, is_good_job, job_bound, has_good_params}
use Rattle.wk_table_laws.specs.EachGood.{GoodAfter, EachGood, KeepsRules}
use Rattle.wk_table_laws.specs.Premises.{FitJob}
use Rattle.wk_table_laws.proofs.FirstBad.{EachGood-push}
use Rattle.wk_table_laws.proofs.Pairs.{Pairs, Passes-from_good, EachGood-from_passes, EachGood-remove}

-- ---- a job is judged alone, and with each job before it

-- what a job is, whatever its params are
unfoldable pub is_good_kind : StoreTables → JobColumns → Bool
is_good_kind tables job =
    cond (bytes_eq job.job_cmd refresh_cmd) (list_any (λ page. title_eq page.page_title job.job_title) tables.pages) (bytes_eq job.job_cmd fan_cmd && is_normal job.job_title)

abbrev pub is_alone_good : StoreTables → JobColumns → Bool
is_alone_good tables job = (leb 1 job.job_id && ltb job.job_id (job_bound tables.version)) && (is_good_kind tables job && has_good_params job)

abbrev pub may_follow : JobColumns → JobColumns → Bool
may_follow earlier job =
    ltb earlier.job_id job.job_id
    && not (bytes_eq earlier.job_cmd (cond (bytes_eq job.job_cmd refresh_cmd) refresh_cmd fan_cmd) && title_eq earlier.job_title job.job_title)

list_all-and : {X : Type 0} (p q : X → Bool) (xs : List X) → list_all (λ x. p x && q x) xs ≡ (list_all p xs && list_all q xs)
list_all-and p q [] = refl
list_all-and p q (x ∷ xs) = rw (list_all-and p q xs) (shuffle (p x) (q x) (list_all p xs) (list_all q xs))
  where
    shuffle : (a b c d : Bool) → ((a && b) && (c && d)) ≡ ((a && c) && (b && d))
    shuffle false b c d = refl
    shuffle true true c d = refl
    shuffle true false true d = refl
    shuffle true false false d = refl

list_all-not : {X : Type 0} (q : X → Bool) (xs : List X) → list_all (λ x. not (q x)) xs ≡ not (list_any q xs)
list_all-not q [] = refl
list_all-not q (x ∷ xs) = rw (list_all-not q xs) (not_or (q x) (list_any q xs))
  where
    not_or : (a b : Bool) → (not a && not b) ≡ not (a || b)
    not_or true b = refl
    not_or false b = refl

regroup : (n l k x p : Bool) → ((n && l) && ((k && x) && p)) ≡ ((n && (k && p)) && (l && x))
regroup false l k x p = refl
regroup true l false x p = refl' l
  where
    refl' : (b : Bool) → (b && false) ≡ false
    refl' true = refl
    refl' false = refl
regroup true false true x true = refl
regroup true false true x false = refl
regroup true true true true p = refl' p
  where
    refl' : (b : Bool) → b ≡ (b && true)
    refl' true = refl
    refl' false = refl
regroup true true true false true = refl
regroup true true true false false = refl

pub job-splits : (tables : StoreTables) (before : List JobColumns) (job : JobColumns) → is_good_job tables before job ≡ (is_alone_good tables job && list_all (λ earlier. may_follow earlier job) before)
unfolding is_good_kind
job-splits tables before job =
    let kind = cond (bytes_eq job.job_cmd refresh_cmd) refresh_cmd fan_cmd in
    let earlier : list_all (λ row. may_follow row job) before ≡ (list_all (λ row. ltb row.job_id job.job_id) before && not (stands_already before kind job.job_title)) =
    list_all-and (λ row. ltb row.job_id job.job_id) (λ row. not (bytes_eq row.job_cmd kind && title_eq row.job_title job.job_title)) before
    ∙ ap (λ b. list_all (λ row. ltb row.job_id job.job_id) before && b) (list_all-not (λ row. bytes_eq row.job_cmd kind && title_eq row.job_title job.job_title) before) in
    let cursor : Bool = elim (fan_params job.job_params) [ None ↦ false | Some params ↦ leb params.cursor max_pages ] in
    rw earlier (elim (cases_Bool (bytes_eq job.job_cmd refresh_cmd)) [
      | inl refresh ↦ rw refresh (regroup (leb 1 job.job_id && ltb job.job_id (job_bound tables.version)) (list_all (λ row. ltb row.job_id job.job_id) before) (list_any (λ page. title_eq page.page_title job.job_title) tables.pages) (not (stands_already before refresh_cmd job.job_title)) (eqb (length job.job_params) 0))
      | inr fan ↦ rw fan (regroup (leb 1 job.job_id && ltb job.job_id (job_bound tables.version)) (list_all (λ row. ltb row.job_id job.job_id) before) (bytes_eq job.job_cmd fan_cmd && is_normal job.job_title) (not (stands_already before fan_cmd job.job_title)) cursor)
    ])

-- ---- a job is changed

pub slice_get-within : {X : Type 0} (xs : List X) (i : ℕ) (x : X) → slice_get xs i ≡ Some x → i < length xs
slice_get-within [] i x there = absurd (let e : None ≡ Some x = there in cc)
slice_get-within (y ∷ xs) zero x there = omega arith
slice_get-within (y ∷ xs) (suc i) x there = let within = slice_get-within xs i x there in omega arith

module _ (P : JobColumns → Type 0) (old new : JobColumns) (kept : P old → P new) where
  each-set : (rows : List JobColumns) (place : ℕ) → slice_get rows place ≡ Some old → AllByRecursion P rows → AllByRecursion P (set rows place new)
  each-set [] place there all = tt
  each-set (row ∷ rows) zero there all = (kept (let e : row ≡ old = some_same there in subst P e all.0), all.1)
    where
      some_same : Some row ≡ Some old → row ≡ old
      some_same e = cc
  each-set (row ∷ rows) (suc place) there all = (all.0, each-set rows place there all.1)

pairs-set : (old new : JobColumns) → new ≡ record old { job_params = new.job_params } → (rows : List JobColumns) (place : ℕ) → slice_get rows place ≡ Some old → Pairs may_follow rows → Pairs may_follow (set rows place new)
pairs-set old new same [] place there pairs = tt
pairs-set old new same (row ∷ rows) zero there pairs =
    let first : row ≡ old = (let e : Some row ≡ Some old = there in cc) in
    let from_old : AllByRecursion (λ y. may_follow old y ≡ true) rows = subst (λ x. AllByRecursion (λ y. may_follow x y ≡ true) rows) first pairs.0 in
    let from_new : AllByRecursion (λ y. may_follow new y ≡ true) rows = subst (λ x. AllByRecursion (λ y. may_follow x y ≡ true) rows) (sym same) from_old in
    (from_new, pairs.1)
pairs-set old new same (row ∷ rows) (suc place) there pairs = (
  each-set (λ y. may_follow row y ≡ true) old new (λ follows. subst (λ y. may_follow row y ≡ true) (sym same) follows) rows place there pairs.0,
  pairs-set old new same rows place there pairs.1,
)

-- the other params change neither the job's number nor what it is
alone-kept : (tables : StoreTables) (old new : JobColumns) → new ≡ record old { job_params = new.job_params } → has_good_params new ≡ true → is_alone_good tables old ≡ true → is_alone_good tables new ≡ true
unfolding is_good_kind
alone-kept tables old new same params good =
    let number = leb 1 old.job_id && ltb old.job_id (job_bound tables.version) in
    let parts = and_parts number (is_good_kind tables old && has_good_params old) good in
    let kind = and_parts (is_good_kind tables old) (has_good_params old) parts.1 in
    let number_kept : (leb 1 new.job_id && ltb new.job_id (job_bound tables.version)) ≡ true = subst (λ job. (leb 1 job.job_id && ltb job.job_id (job_bound tables.version)) ≡ true) (sym same) parts.0 in
    let kind_kept : is_good_kind tables new ≡ true = subst (λ job. is_good_kind tables job ≡ true) (sym same) kind.0 in
    and_from (leb 1 new.job_id && ltb new.job_id (job_bound tables.version)) (is_good_kind tables new && has_good_params new) number_kept (and_from (is_good_kind tables new) (has_good_params new) kind_kept params)

pub position-found : {X : Type 0} (p : X → Bool) (xs : List X) → ltb (position_or_len p xs) (length xs) ≡ true → position p xs ≡ Some (position_or_len p xs)
position-found p xs within = rw within refl

pub position-none : {X : Type 0} (p : X → Bool) (xs : List X) → ltb (position_or_len p xs) (length xs) ≡ false → position p xs ≡ None
position-none p xs past = rw past refl

with_job-at : (rows : List JobColumns) (new : JobColumns) (place : ℕ) → position (λ row. eqb row.job_id new.job_id) rows ≡ Some place → with_job rows new ≡ set rows place new
with_job-at rows new place at = rw (at, with_job) refl

without_job-at : (rows : List JobColumns) (id place : ℕ) → position (λ row. eqb row.job_id id) rows ≡ Some place → without_job rows id ≡ remove rows place
without_job-at rows id place at = rw (at, without_job) refl

without_job-none : (rows : List JobColumns) (id : ℕ) → position (λ row. eqb row.job_id id) rows ≡ None → without_job rows id ≡ rows
without_job-none rows id none = rw (none, without_job) refl

jobs-set : (tables : StoreTables) (old new : JobColumns) → FitJob tables old new → EachGood (is_good_job tables) tables.jobs → EachGood (is_good_job tables) (with_job tables.jobs new)
jobs-set tables old new fit good =
    let place = position_or_len (λ row. eqb row.job_id new.job_id) tables.jobs in
    let there : slice_get tables.jobs place ≡ Some old = sym (find_at (λ row. eqb row.job_id new.job_id) tables.jobs) ∙ fit.there in
    let passes = Passes-from_good may_follow (is_alone_good tables) (is_good_job tables) (job-splits tables) tables.jobs good in
    let within : ltb place (length tables.jobs) ≡ true = lt-ltb place (length tables.jobs) (slice_get-within tables.jobs place old there) in
    rw (with_job-at tables.jobs new place (position-found (λ row. eqb row.job_id new.job_id) tables.jobs within)) (EachGood-from_passes may_follow (is_alone_good tables) (is_good_job tables) (job-splits tables) (set tables.jobs place new) (record {
      alone = each-set (λ job. is_alone_good tables job ≡ true) old new (alone-kept tables old new fit.same fit.params) tables.jobs place there passes.alone;
      paired = pairs-set old new fit.same tables.jobs place there passes.paired;
    }))

jobs-drop : (tables : StoreTables) (id : ℕ) → EachGood (is_good_job tables) tables.jobs → EachGood (is_good_job tables) (without_job tables.jobs id)
jobs-drop tables id good =
    let place = position_or_len (λ row. eqb row.job_id id) tables.jobs in
    elim (cases_Bool (ltb place (length tables.jobs))) [
      | inl within ↦ rw (without_job-at tables.jobs id place (position-found (λ row. eqb row.job_id id) tables.jobs within)) (EachGood-remove may_follow (is_alone_good tables) (is_good_job tables) (job-splits tables) tables.jobs place good)
      | inr past ↦ rw (without_job-none tables.jobs id (position-none (λ row. eqb row.job_id id) tables.jobs past)) good
    ]

-- ---- the version rises

pub GoodAfter-weaker : {Row : Type 0} (g h : List Row → Row → Bool) → ((before : List Row) (row : Row) → g before row ≡ true → h before row ≡ true) → (before rows : List Row) → GoodAfter g before rows → GoodAfter h before rows
GoodAfter-weaker g h weaker before [] good = tt
GoodAfter-weaker g h weaker before (row ∷ rows) good = (weaker before row good.0, GoodAfter-weaker g h weaker (before ++ row ∷ []) rows good.1)

bound-rises : (version id : ℕ) → ltb id (job_bound version) ≡ true → ltb id (2 ^ 63) ≡ true
bound-rises version id below = elim (cases_Bool (eqb version 1)) [
  | inl one ↦ let small : ltb id (2 ^ 63 - 1000000) ≡ true = rw one at below in let under : id < 2 ^ 63 - 1000000 = ltb-true id (2 ^ 63 - 1000000) small in lt-ltb id (2 ^ 63) (omega arith)
  | inr other ↦ rw other at below
]

-- every rule but that of the version itself allows as much with version 2
job-rises : (tables : StoreTables) (before : List JobColumns) (job : JobColumns) → is_good_job tables before job ≡ true → is_good_job (record tables { version = 2 }) before job ≡ true
job-rises tables before job good =
    let kind = cond (bytes_eq job.job_cmd refresh_cmd) (is_good_refresh tables before job) (is_good_fan before job) in
    let behind = list_all (λ earlier. ltb earlier.job_id job.job_id) before in
    let parts = and_parts (is_good_number tables.version before job) kind good in
    let number = and_parts (leb 1 job.job_id && ltb job.job_id (job_bound tables.version)) behind parts.0 in
    let bounds = and_parts (leb 1 job.job_id) (ltb job.job_id (job_bound tables.version)) number.0 in
    and_from (is_good_number 2 before job) kind
    (and_from (leb 1 job.job_id && ltb job.job_id (2 ^ 63)) behind
    (and_from (leb 1 job.job_id) (ltb job.job_id (2 ^ 63)) bounds.0 (bound-rises tables.version job.job_id bounds.1)) number.1)
    parts.1

-- ---- the rules of all tables

module _ (tables : StoreTables) (keeps : KeepsRules tables) where
  with_good_jobs : (jobs : List JobColumns) → EachGood (is_good_job tables) jobs → KeepsRules (record tables { jobs = jobs })
  with_good_jobs jobs good = record {
    ids = keeps.ids;
    titles = keeps.titles;
    revisions = keeps.revisions;
    parents = keeps.parents;
    latest = keeps.latest;
    pagelinks = keeps.pagelinks;
    templatelinks = keeps.templatelinks;
    existlinks = keeps.existlinks;
    categorylinks = keeps.categorylinks;
    redirects = keeps.redirects;
    jobs = good;
    version = keeps.version;
  }

  pub KeepsRules-add_job : (job : JobColumns) → is_good_job tables tables.jobs job ≡ true → KeepsRules (edited tables (add_job job))
  KeepsRules-add_job job good = with_good_jobs (tables.jobs ++ job ∷ []) (EachGood-push (is_good_job tables) tables.jobs job keeps.jobs good)

  pub KeepsRules-set_job : (old new : JobColumns) → FitJob tables old new → KeepsRules (edited tables (set_job new))
  KeepsRules-set_job old new fit = with_good_jobs (with_job tables.jobs new) (jobs-set tables old new fit keeps.jobs)

  pub KeepsRules-drop_job : (id : ℕ) → KeepsRules (edited tables (drop_job id))
  KeepsRules-drop_job id = with_good_jobs (without_job tables.jobs id) (jobs-drop tables id keeps.jobs)

  pub KeepsRules-set_version : KeepsRules (edited tables (set_version 2))
  KeepsRules-set_version = record {
    ids = keeps.ids;
    titles = keeps.titles;
    revisions = keeps.revisions;
    parents = keeps.parents;
    latest = keeps.latest;
    pagelinks = keeps.pagelinks;
    templatelinks = keeps.templatelinks;
    existlinks = keeps.existlinks;
    categorylinks = keeps.categorylinks;
    redirects = keeps.redirects;
    jobs = GoodAfter-weaker (is_good_job tables) (is_good_job (record tables { version = 2 })) (job-rises tables) [] tables.jobs keeps.jobs;
    version = refl;
  }
