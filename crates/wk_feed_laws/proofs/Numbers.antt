-- The numbers in the rows of good tables have 64 bits.
use Rattle.std.proofs.Common.{◌≡◌, ℕ, ℤ, pos, ◌+◌, ◌-◌, ◌≤◌, ◌<◌, ◌^◌, Bool, true, false, cond, not, ◌&&◌, leb, eqb, List, [], ◌∷◌, ◌++◌, length, map, filter, find, bytes_eq, Option, Some, None, option_map, refl, sym, ap, ◌∙◌, subst, arith, inl, inr, eqb-true, length-append}
use Rattle.std.specs.Prelude.{⊤, unwrap_or}
use Rattle.std.specs.List.{AllByRecursion, last_or, list_any}
use Rattle.std.specs.Ordering.{int_eq}
use Rattle.std.proofs.lemmas.Bool.{and_parts, cases_Bool, leb-true}
use Rattle.wk_text_rules.specs.Titles.{PageTitle, is_namespace, is_normal, is_page_title, is_virtual, named_namespaces, normal, shown, title_eq}
use Rattle.wk_page_rules.specs.Verdict.{max_pages, max_text}
use Rattle.wk_table_rules.specs.Rows.{PageColumns, RevisionColumns, LinkColumns, CategoryColumns, RedirectColumns, JobColumns, StoreTables}
use Rattle.wk_table_rules.specs.Changes.{has_page, namespace_of}
use Rattle.wk_table_rules.specs.JobTable.{refresh_cmd}
use Rattle.wk_table_rules.specs.GoodStore.{current_of, has_good_id, has_good_latest, has_good_parent, has_good_title, is_good_category, is_good_fan, is_good_job, is_good_link, is_good_redirect, is_good_refresh, is_good_revision, job_bound, last_revision}
use Rattle.wk_table_laws.specs.EachGood.{EachGood, GoodAfter, KeepsRules}
use Rattle.wk_title.proofs.NormalLemmas.{normal-Some}
use Rattle.wk_title_laws.proofs.Keys.{key_is}
use Rattle.wk_title_laws.proofs.Names.{int_eq-true}
use Rattle.wk_view_laws.proofs.PlanLemmas.{title_eq-true}
use Rattle.wk_feed_rules.specs.Lines.{of_page, of_revision, of_pagelinks, of_templatelinks, of_existlinks, of_categorylinks, of_redirect, of_job}
use Rattle.wk_feed_rules.specs.Feeds.{rows_of_tables}
use Rattle.wk_feed_laws.proofs.GoodRows.{category-is, fan-title, job-is, link-is, redirect-is, refresh-title, revision-is}
use Rattle.wk_feed_laws.specs.Fits.{IntegerFits, LinkFits, NumberFits, RowFits}

-- ---- lists

module _ {X : Type 0} where
  pub all-append : (P : X → Type 0) (xs ys : List X) → AllByRecursion P xs → AllByRecursion P ys → AllByRecursion P (xs ++ ys)
  all-append P [] ys first second = second
  all-append P (x ∷ xs) ys first second = (first.0, all-append P xs ys first.1 second)

  pub all-map : {Y : Type 0} (P : X → Type 0) (Q : Y → Type 0) (f : X → Y) → ((x : X) → P x → Q (f x)) → (xs : List X) → AllByRecursion P xs → AllByRecursion Q (map f xs)
  all-map P Q f each [] all = tt
  all-map P Q f each (x ∷ xs) all = (each x all.0, all-map P Q f each xs all.1)

  all-both : (P Q : X → Type 0) (xs : List X) → AllByRecursion P xs → AllByRecursion Q xs → AllByRecursion (λ x. P x × Q x) xs
  all-both P Q [] first second = tt
  all-both P Q (x ∷ xs) first second = ((first.0, second.0), all-both P Q xs first.1 second.1)

  -- what holds of all holds of one that passes a test
  of-any : (P : X → Type 0) (test : X → Bool) (xs : List X) → AllByRecursion P xs → list_any test xs ≡ true → (x : X) × (P x × (test x ≡ true))
  of-any P test [] all any = absurd (let e : false ≡ true = any in cc)
  of-any P test (x ∷ xs) all any = elim (cases_Bool (test x)) [
    | inl passes ↦ (x, (all.0, passes))
    | inr fails ↦ of-any P test xs all.1 (rw fails at any)
  ]

  -- and of the one that is found, and of the last one
  of-found : (P : X → Type 0) (test : X → Bool) (xs : List X) (x : X) → AllByRecursion P xs → find test xs ≡ Some x → P x
  of-found P test [] x all is = absurd (let e : None ≡ Some x = is in cc)
  of-found P test (y ∷ xs) x all is = elim (cases_Bool (test y)) [
    | inl passes ↦ let e : Some y ≡ Some x = rw passes at is in let same : y ≡ x = cc in subst P same all.0
    | inr fails ↦ of-found P test xs x all.1 (rw fails at is)
  ]

  of-last : (P : X → Type 0) (test : X → Bool) (o : Option X) (xs : List X) (x : X) → ((y : X) → o ≡ Some y → P y) → AllByRecursion P xs → last_or o (filter test xs) ≡ Some x → P x
  of-last P test o [] x own all is = own x is
  of-last P test o (y ∷ xs) x own all is = elim (cases_Bool (test y)) [
    | inl passes ↦ of-last P test (Some y) xs x (λ z e. let same : y ≡ z = cc in subst P same all.0) all.1 (rw passes at is)
    | inr fails ↦ of-last P test o xs x own all.1 (rw fails at is)
  ]

  -- each row is good, judged with those before it, of which this holds as well
  each-good : (is_good : List X → X → Bool) (P Q : X → Type 0) (bound : ℕ)
      → ((before : List X) (x : X) → length before < bound → AllByRecursion P before → is_good before x ≡ true → Q x)
      → (before xs : List X) → length before + length xs ≤ bound → AllByRecursion P before → AllByRecursion P xs → GoodAfter is_good before xs → AllByRecursion Q xs
  each-good is_good P Q bound each before [] short first all good = tt
  each-good is_good P Q bound each before (x ∷ xs) short first all good =
      let longer = length-append before (x ∷ []) in
      let fewer : length before < bound = omega (arith, short) in
      let rest : length (before ++ x ∷ []) + length xs ≤ bound = omega (arith, short, longer) in
      (each before x fewer first good.0, each-good is_good P Q bound each (before ++ x ∷ []) xs rest (all-append P before (x ∷ []) first (all.0, tt)) all.1 good.1)

  all-trivial : (xs : List X) → AllByRecursion (λ (x : X). ⊤) xs
  all-trivial [] = tt
  all-trivial (x ∷ xs) = (tt, all-trivial xs)

  -- the same where nothing of those before it plays a part
  each-alone : (is_good : List X → X → Bool) (Q : X → Type 0) → ((before : List X) (x : X) → is_good before x ≡ true → Q x) → (xs : List X) → EachGood is_good xs → AllByRecursion Q xs
  each-alone is_good Q each xs good =
      each-good is_good (λ (x : X). ⊤) Q (length xs) (λ before x fewer all is. each before x is) [] xs (omega arith) tt (all-trivial xs) good

-- ---- namespaces

any-fits : (ns : ℤ) (entries : List (ℤ × List ℕ)) → AllByRecursion (λ (e : ℤ × List ℕ). IntegerFits e.0) entries → list_any (λ (e : ℤ × List ℕ). int_eq ns e.0) entries ≡ true → IntegerFits ns
any-fits ns entries all any =
    let one = of-any (λ (e : ℤ × List ℕ). IntegerFits e.0) (λ (e : ℤ × List ℕ). int_eq ns e.0) entries all any in
    subst IntegerFits (sym (int_eq-true ns one.0.0 one.1.1)) one.1.0

names-fit : AllByRecursion (λ (e : ℤ × List ℕ). IntegerFits e.0) named_namespaces
names-fit = (
  omega arith,
  (
    omega arith,
    (
      omega arith,
      (
        omega arith,
        (
          omega arith,
          (
            omega arith,
            (
              omega arith,
              (
                omega arith,
                (
                  omega arith,
                  (
                    omega arith,
                    (omega arith, (omega arith, (omega arith, (omega arith, (omega arith, (omega arith, (omega arith, tt))))))),
                  ),
                ),
              ),
            ),
          ),
        ),
      ),
    ),
  ),
)

namespace-fits : (ns : ℤ) → is_namespace ns ≡ true → IntegerFits ns
namespace-fits ns known = elim (cases_Bool (int_eq ns (pos 0))) [
  | inl zero ↦ let fits : IntegerFits (pos 0) = omega arith in subst IntegerFits (sym (int_eq-true ns (pos 0) zero)) fits
  | inr named ↦ any-fits ns named_namespaces names-fit (rw named at known)
]

named-by : (title : PageTitle) (found : Option PageTitle) → (elim found as (λ p. Bool) [ None ↦ false | Some named ↦ title_eq named title ]) ≡ true → found ≡ Some title
named-by title None e = absurd (let none : false ≡ true = e in cc)
named-by title (Some named) e = ap (λ t. Some t) (title_eq-true named title e)

normal-fits : (title : PageTitle) → is_normal title ≡ true → IntegerFits title.ns
normal-fits title is =
    let named = named-by title (normal (shown title) (pos 0)) is in
    let parts = normal-Some (shown title) (pos 0) title named in
    namespace-fits title.ns (ap (λ (t : PageTitle). is_namespace t.ns) parts.1 ∙ (key_is (shown title) (pos 0) refl parts.0).namespace)

page-title-fits : (title : PageTitle) → is_page_title title ≡ true → IntegerFits title.ns
page-title-fits title is = normal-fits title (and_parts (is_normal title) (not (is_virtual title)) is).0

-- ---- pages and revisions

-- what is known of a page's row before its revisions are looked at
abbrev PageKnown : PageColumns → Type 0
PageKnown p = (p.page_id ≤ max_pages) × IntegerFits p.page_title.ns

-- and of a revision's row
abbrev RevisionKnown : RevisionColumns → Type 0
RevisionKnown r = NumberFits r.rev_id × (r.rev_page ≤ max_pages) × (r.rev_len ≤ max_text)

module _ (tables : StoreTables) (keeps : KeepsRules tables) (few : NumberFits (length tables.revisions)) where
  ids-fit : AllByRecursion (λ (p : PageColumns). p.page_id ≤ max_pages) tables.pages
  ids-fit = each-alone has_good_id (λ (p : PageColumns). p.page_id ≤ max_pages)
      (λ before p good. leb-true p.page_id max_pages (and_parts (eqb p.page_id (length before + 1)) (leb p.page_id max_pages) good).1)
      tables.pages keeps.ids

  pages-known : AllByRecursion PageKnown tables.pages
  pages-known = all-both (λ (p : PageColumns). p.page_id ≤ max_pages) (λ (p : PageColumns). IntegerFits p.page_title.ns) tables.pages ids-fit
      (each-alone has_good_title (λ (p : PageColumns). IntegerFits p.page_title.ns)
      (λ before p good. page-title-fits p.page_title (and_parts (is_page_title p.page_title) (not (list_any (λ (earlier : PageColumns). title_eq earlier.page_title p.page_title) before)) good).0)
      tables.pages keeps.titles)

  page-there : (id : ℕ) → has_page tables id ≡ true → id ≤ max_pages
  page-there id there =
      let one = of-any (λ (p : PageColumns). p.page_id ≤ max_pages) (λ (p : PageColumns). eqb p.page_id id) tables.pages ids-fit there in
      let same = eqb-true one.0.page_id id one.1.1 in
      let low = one.1.0 in
      omega (arith, same, low)

  page-fits : (id : ℕ) → has_page tables id ≡ true → NumberFits id
  page-fits id there = let low = page-there id there in omega (arith, low)

  revisions-known : AllByRecursion RevisionKnown tables.revisions
  revisions-known = each-good (is_good_revision tables) (λ (r : RevisionColumns). ⊤) RevisionKnown (length tables.revisions)
      (λ before r fewer all good.
      let known = revision-is tables before r good in
      let number = known.number in
      let id : NumberFits r.rev_id = omega (arith, number, fewer, few) in
      (id, page-there r.rev_page known.page, known.len))
      [] tables.revisions (omega arith) tt (all-trivial tables.revisions) keeps.revisions

  -- the number that is current behind revisions of which this is known
  current-fits : (revisions : List RevisionColumns) (page : ℕ) → AllByRecursion RevisionKnown revisions → NumberFits (current_of revisions page)
  current-fits revisions page known = by (last_revision revisions page) refl
    where
      by : (o : Option RevisionColumns) → last_revision revisions page ≡ o → NumberFits (elim o as (λ p. ℕ) [ None ↦ 0 | Some last ↦ cond last.rev_gone 0 last.rev_id ])
      by None is = omega arith
      by (Some last) is =
          let own = (of-last RevisionKnown (λ (r : RevisionColumns). eqb r.rev_page page) None revisions last (λ y e. absurd (let none : None ≡ Some y = e in cc)) known is).0 in
          elim last.rev_gone as (λ b. NumberFits (cond b 0 last.rev_id)) [ true ↦ omega arith | false ↦ own ]

  parents-fit : AllByRecursion (λ (r : RevisionColumns). NumberFits r.rev_parent_id) tables.revisions
  parents-fit = each-good has_good_parent RevisionKnown (λ (r : RevisionColumns). NumberFits r.rev_parent_id) (length tables.revisions)
      (λ before r fewer all good. subst NumberFits (sym (eqb-true r.rev_parent_id (current_of before r.rev_page) good)) (current-fits before r.rev_page all))
      [] tables.revisions (omega arith) tt revisions-known keeps.parents

  abbrev LatestFits : PageColumns → Type 0
  LatestFits p = NumberFits p.page_latest × NumberFits p.page_len

  latest-fits : AllByRecursion LatestFits tables.pages
  latest-fits = each-alone (has_good_latest tables) LatestFits (λ before p good. by p (last_revision tables.revisions p.page_id) refl good) tables.pages keeps.latest
    where
      by : (p : PageColumns) (o : Option RevisionColumns) → last_revision tables.revisions p.page_id ≡ o
          → (elim o as (λ q. Bool) [ None ↦ false | Some last ↦ eqb p.page_latest (current_of tables.revisions p.page_id) && eqb p.page_len last.rev_len ]) ≡ true → LatestFits p
      by p None is good = absurd (let e : false ≡ true = good in cc)
      by p (Some last) is good =
          let parts = and_parts (eqb p.page_latest (current_of tables.revisions p.page_id)) (eqb p.page_len last.rev_len) good in
          let known = of-last RevisionKnown (λ (r : RevisionColumns). eqb r.rev_page p.page_id) None tables.revisions last (λ y e. absurd (let none : None ≡ Some y = e in cc)) revisions-known is in
          let len = eqb-true p.page_len last.rev_len parts.1 in
          let short = known.2 in
          (subst NumberFits (sym (eqb-true p.page_latest (current_of tables.revisions p.page_id) parts.0)) (current-fits tables.revisions p.page_id revisions-known), omega (arith, len, short))

  -- ---- link rows

  namespace-of-fits : (id : ℕ) → IntegerFits (namespace_of tables id)
  namespace-of-fits id = by (find (λ (p : PageColumns). eqb p.page_id id) tables.pages) refl
    where
      by : (o : Option PageColumns) → find (λ (p : PageColumns). eqb p.page_id id) tables.pages ≡ o → IntegerFits (unwrap_or (option_map (λ (p : PageColumns). p.page_title.ns) o) (pos 0))
      by None is = omega arith
      by (Some p) is = (of-found PageKnown (λ (p : PageColumns). eqb p.page_id id) tables.pages p pages-known is).1

  link-fits : (before : List LinkColumns) (l : LinkColumns) → is_good_link tables before l ≡ true → LinkFits l
  link-fits before l good =
      let known = link-is tables before l good in
      (page-fits l.from known.page, subst IntegerFits (sym (int_eq-true l.from_namespace (namespace_of tables l.from) known.namespace)) (namespace-of-fits l.from), page-title-fits l.target known.title)

  category-fits : (before : List CategoryColumns) (c : CategoryColumns) → is_good_category tables before c ≡ true → NumberFits c.cl_from
  category-fits before c good = page-fits c.cl_from (category-is tables before c good).page

  redirect-fits : (before : List RedirectColumns) (r : RedirectColumns) → is_good_redirect tables before r ≡ true → RowFits (of_redirect r)
  redirect-fits before r good =
      let known = redirect-is tables before r good in
      (page-fits r.rd_from known.page, page-title-fits r.rd_title known.title)

  -- ---- jobs

  bound-fits : (version : ℕ) → job_bound version ≤ 2 ^ 63
  bound-fits version = elim (eqb version 1) as (λ b. cond b (2 ^ 63 - max_pages) (2 ^ 63) ≤ 2 ^ 63) [ true ↦ omega arith | false ↦ omega arith ]

  job-title-fits : (before : List JobColumns) (j : JobColumns) (b : Bool) → cond b (is_good_refresh tables before j) (is_good_fan before j) ≡ true → IntegerFits j.job_title.ns
  job-title-fits before j true good =
      let named = refresh-title tables before j good in
      let one = of-any PageKnown (λ (p : PageColumns). title_eq p.page_title j.job_title) tables.pages pages-known named in
      subst (λ (t : PageTitle). IntegerFits t.ns) (title_eq-true one.0.page_title j.job_title one.1.1) one.1.0.1
  job-title-fits before j false good =
      normal-fits j.job_title (fan-title tables before j good)

  job-fits : (before : List JobColumns) (j : JobColumns) → is_good_job tables before j ≡ true → RowFits (of_job j)
  job-fits before j good =
      let known = job-is tables before j good in
      let low = known.low in
      let bound = bound-fits tables.version in
      let id : NumberFits j.job_id = omega (arith, low, bound) in
      (id, job-title-fits before j (bytes_eq j.job_cmd refresh_cmd) known.kind)

  -- ---- all rows

  abbrev Moment : RevisionColumns → Type 0
  Moment r = NumberFits r.rev_timestamp

  pub rows-fit : AllByRecursion Moment tables.revisions → AllByRecursion RowFits (rows_of_tables tables)
  rows-fit moments =
      let pages = all-map (λ (p : PageColumns). PageKnown p × LatestFits p) RowFits of_page
      (λ p known. (let low = known.0.0 in let id : NumberFits p.page_id = omega (arith, low) in id, known.0.1, known.1.0, known.1.1))
      tables.pages (all-both PageKnown LatestFits tables.pages pages-known latest-fits)
      in
      let revisions = all-map (λ (r : RevisionColumns). RevisionKnown r × (NumberFits r.rev_parent_id × Moment r)) RowFits of_revision
      (λ r known.
      let low = known.0.1 in
      let short = known.0.2 in
      let page : NumberFits r.rev_page = omega (arith, low) in
      let len : NumberFits r.rev_len = omega (arith, short) in
      (known.0.0, page, known.1.0, known.1.1, len))
      tables.revisions
      (all-both RevisionKnown (λ (r : RevisionColumns). NumberFits r.rev_parent_id × Moment r) tables.revisions revisions-known
      (all-both (λ (r : RevisionColumns). NumberFits r.rev_parent_id) Moment tables.revisions parents-fit moments))
      in
      let pagelinks = all-map LinkFits RowFits of_pagelinks (λ l fits. fits) tables.pagelinks (each-alone (is_good_link tables) LinkFits link-fits tables.pagelinks keeps.pagelinks) in
      let templatelinks = all-map LinkFits RowFits of_templatelinks (λ l fits. fits) tables.templatelinks (each-alone (is_good_link tables) LinkFits link-fits tables.templatelinks keeps.templatelinks) in
      let existlinks = all-map LinkFits RowFits of_existlinks (λ l fits. fits) tables.existlinks (each-alone (is_good_link tables) LinkFits link-fits tables.existlinks keeps.existlinks) in
      let categories = all-map (λ (c : CategoryColumns). NumberFits c.cl_from) RowFits of_categorylinks (λ c fits. fits) tables.categorylinks
      (each-alone (is_good_category tables) (λ (c : CategoryColumns). NumberFits c.cl_from) category-fits tables.categorylinks keeps.categorylinks)
      in
      let redirects = all-map (λ (r : RedirectColumns). RowFits (of_redirect r)) RowFits of_redirect (λ r fits. fits) tables.redirects
      (each-alone (is_good_redirect tables) (λ (r : RedirectColumns). RowFits (of_redirect r)) redirect-fits tables.redirects keeps.redirects)
      in
      let jobs = all-map (λ (j : JobColumns). RowFits (of_job j)) RowFits of_job (λ j fits. fits) tables.jobs
      (each-alone (is_good_job tables) (λ (j : JobColumns). RowFits (of_job j)) job-fits tables.jobs keeps.jobs)
      in
      all-append RowFits _ _ pages (all-append RowFits _ _ revisions (all-append RowFits _ _ pagelinks (all-append RowFits _ _ templatelinks
      (all-append RowFits _ _ existlinks (all-append RowFits _ _ categories (all-append RowFits _ _ redirects (all-append RowFits _ _ jobs (tt, tt))))))))
