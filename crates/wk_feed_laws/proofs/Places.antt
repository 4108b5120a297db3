-- Rows of good tables stand in the order of a feed.
use Rattle.std.proofs.Common.{◌≡◌, ℕ, ◌+◌, ◌<◌, Bool, true, ◌&&◌, ◌||◌, ltb, leb, eqb, List, [], ◌∷◌, ◌++◌, length, map, Option, Some, None, refl, sym, ap, ◌∙◌, arith, length-append, lt-ltb, Ordering, Less, eqb-true}
use Rattle.std.specs.Prelude.{⊤}
use Rattle.std.specs.List.{last_or, list_all}
use Rattle.std.specs.Ordering.{is_lt, nat_cmp, ordering_then}
use Rattle.std.specs.Cmp.{nat_cmp_is}
use Rattle.std.specs.Fmt.{decimal}
use Rattle.std.proofs.lemmas.Bool.{and_parts, ltb-true}
use Rattle.std.proofs.lemmas.List.Folds.{list_all-append}
use Rattle.wk_text_rules.specs.Titles.{title_cmp}
use Rattle.wk_table_rules.specs.Rows.{PageColumns, RevisionColumns, LinkColumns, CategoryColumns, RedirectColumns, JobColumns, StoreTables, category_title}
use Rattle.wk_table_rules.specs.GoodStore.{has_good_id, is_good_revision, is_good_link, is_good_category, is_good_redirect, is_good_job, row_lt}
use Rattle.wk_page_rules.specs.Verdict.{max_pages}
use Rattle.wk_table_laws.specs.EachGood.{EachGood, GoodAfter, KeepsRules}
use Rattle.wk_feed_rules.specs.Lines.{TableRow, of_page, of_revision, of_pagelinks, of_templatelinks, of_existlinks, of_categorylinks, of_redirect, of_job, of_site}
use Rattle.wk_feed_rules.specs.Feeds.{rows_of_tables}
use Rattle.wk_feed_rules.specs.Taking.{no_title, place_lt, place_of}
use Rattle.wk_feed_laws.proofs.GoodRows.{category-is, job-is, link-is, redirect-is, revision-is}
use Rattle.wk_feed_laws.proofs.Taken.{AreBehind}

-- ---- behind the last row

-- the row stands behind this one, where there is one
abbrev follows : Option TableRow → TableRow → Bool
follows o new = elim o as (λ p. Bool) [ None ↦ true | Some last ↦ place_lt (place_of last) (place_of new) ]

-- each row stands behind the one before it, and the first behind this one
abbrev Rise : Option TableRow → List TableRow → Type 0
Rise o [] = ⊤
Rise o (r ∷ rows) = (follows o r ≡ true) × Rise (Some r) rows

last-push : (o : Option TableRow) (rows : List TableRow) (r : TableRow) → last_or o (rows ++ r ∷ []) ≡ Some r
last-push o [] r = refl
last-push o (x ∷ rows) r = last-push (Some x) rows r

behind-from : (rows before : List TableRow) (o : Option TableRow) → last_or None before ≡ o → Rise o rows → AreBehind before rows
behind-from [] before o last rise = tt
behind-from (r ∷ rows) before o last rise =
    (ap (λ p. follows p r) last ∙ rise.0, behind-from rows (before ++ r ∷ []) (Some r) (last-push None before r) rise.1)

Rise-append : (o : Option TableRow) (xs ys : List TableRow) → Rise o xs → Rise (last_or o xs) ys → Rise o (xs ++ ys)
Rise-append o [] ys first second = second
Rise-append o (x ∷ xs) ys first second = (first.0, Rise-append (Some x) xs ys first.1 second)

-- ---- one table behind others

-- the row, where there is one, is of a table before this one
abbrev IsBefore : ℕ → Option TableRow → Type 0
IsBefore table None = ⊤
IsBefore table (Some r) = (place_of r).table < table

module _ {Row : Type 0} (of : Row → TableRow) (table : ℕ) (placed : (r : Row) → (place_of (of r)).table ≡ table) (is_good : List Row → Row → Bool)
    (rises : (before : List Row) (a b : Row) → is_good before a ≡ true → is_good (before ++ a ∷ []) b ≡ true → place_lt (place_of (of a)) (place_of (of b)) ≡ true) where
  rise-in : (before : List Row) (a : Row) (rows : List Row) → is_good before a ≡ true → GoodAfter is_good (before ++ a ∷ []) rows → Rise (Some (of a)) (map of rows)
  rise-in before a [] good rest = tt
  rise-in before a (b ∷ rows) good rest = (rises before a b good rest.0, rise-in (before ++ a ∷ []) b rows rest.0 rest.1)

  first-follows : (o : Option TableRow) (r : Row) → IsBefore table o → follows o (of r) ≡ true
  first-follows None r before = refl
  first-follows (Some last) r before =
      let is = placed r in
      let lower : (place_of last).table < (place_of (of r)).table = omega (arith, before, is) in
      ap (λ b. b || (eqb (place_of last).table (place_of (of r)).table && row_lt (place_of last).number (place_of last).title (place_of (of r)).number (place_of (of r)).title)) (lt-ltb _ _ lower)

  table-rises : (o : Option TableRow) (rows : List Row) → IsBefore table o → EachGood is_good rows → Rise o (map of rows)
  table-rises o [] before good = tt
  table-rises o (a ∷ rows) before good = (first-follows o a before, rise-in [] a rows good.0 good.1)

  raised : (o : Option TableRow) → IsBefore table o → IsBefore (table + 1) o
  raised None before = tt
  raised (Some r) before = omega (arith, before)

  last-before : (o : Option TableRow) (rows : List Row) → IsBefore (table + 1) o → IsBefore (table + 1) (last_or o (map of rows))
  last-before o [] before = before
  last-before o (r ∷ rows) before = last-before (Some (of r)) rows (let is = placed r in let less : (place_of (of r)).table < table + 1 = omega (arith, is) in less)

  -- the table's rows, and then others
  then-rises : (o : Option TableRow) (rows : List Row) (more : List TableRow) → IsBefore table o → EachGood is_good rows
      → ((last : Option TableRow) → IsBefore (table + 1) last → Rise last more) → Rise o (map of rows ++ more)
  then-rises o rows more before good later =
      Rise-append o (map of rows) more (table-rises o rows before good) (later (last_or o (map of rows)) (last-before o rows (raised o before)))

-- ---- the order in each table

less-then : (a b : ℕ) (o : Ordering) → a < b → is_lt (ordering_then (nat_cmp a b) o) ≡ true
less-then a b o less = ap (λ c. is_lt (ordering_then c o)) (sym (nat_cmp_is a b Less less))

page-rises : (before : List PageColumns) (a b : PageColumns) → has_good_id before a ≡ true → has_good_id (before ++ a ∷ []) b ≡ true → place_lt (place_of (of_page a)) (place_of (of_page b)) ≡ true
page-rises before a b first second =
    let one = eqb-true a.page_id (length before + 1) (and_parts (eqb a.page_id (length before + 1)) (leb a.page_id max_pages) first).0 in
    let two = eqb-true b.page_id (length (before ++ a ∷ []) + 1) (and_parts (eqb b.page_id (length (before ++ a ∷ []) + 1)) (leb b.page_id max_pages) second).0 in
    let longer = length-append before (a ∷ []) in
    let lower : a.page_id < b.page_id = omega (arith, one, two, longer) in
    less-then a.page_id b.page_id (title_cmp a.page_title b.page_title) lower

-- the last of these passes a test that all pass
last-passes : {Row : Type 0} (test : Row → Bool) (before : List Row) (a : Row) → list_all test (before ++ a ∷ []) ≡ true → test a ≡ true
last-passes test before a all =
    let parts = and_parts (list_all test before) (list_all test (a ∷ [])) (sym (list_all-append test before (a ∷ [])) ∙ all) in
    (and_parts (test a) (list_all test []) parts.1).0

module _ (tables : StoreTables) where
  revision-rises : (before : List RevisionColumns) (a b : RevisionColumns) → is_good_revision tables before a ≡ true → is_good_revision tables (before ++ a ∷ []) b ≡ true → place_lt (place_of (of_revision a)) (place_of (of_revision b)) ≡ true
  revision-rises before a b first second =
      let one = (revision-is tables before a first).number in
      let two = (revision-is tables (before ++ a ∷ []) b second).number in
      let longer = length-append before (a ∷ []) in
      let lower : a.rev_id < b.rev_id = omega (arith, one, two, longer) in
      less-then a.rev_id b.rev_id (title_cmp no_title no_title) lower

  link-rises : (before : List LinkColumns) (a b : LinkColumns) → is_good_link tables (before ++ a ∷ []) b ≡ true → row_lt a.from a.target b.from b.target ≡ true
  link-rises before a b good = last-passes (λ (earlier : LinkColumns). row_lt earlier.from earlier.target b.from b.target) before a (link-is tables (before ++ a ∷ []) b good).behind

  category-rises : (before : List CategoryColumns) (a b : CategoryColumns) → is_good_category tables (before ++ a ∷ []) b ≡ true → row_lt a.cl_from (category_title a.cl_to) b.cl_from (category_title b.cl_to) ≡ true
  category-rises before a b good =
      last-passes (λ (earlier : CategoryColumns). row_lt earlier.cl_from (category_title earlier.cl_to) b.cl_from (category_title b.cl_to)) before a (category-is tables (before ++ a ∷ []) b good).behind

  redirect-rises : (before : List RedirectColumns) (a b : RedirectColumns) → is_good_redirect tables (before ++ a ∷ []) b ≡ true → row_lt a.rd_from a.rd_title b.rd_from b.rd_title ≡ true
  redirect-rises before a b good =
      let lower = ltb-true a.rd_from b.rd_from (last-passes (λ (earlier : RedirectColumns). ltb earlier.rd_from b.rd_from) before a (redirect-is tables (before ++ a ∷ []) b good).behind) in
      less-then a.rd_from b.rd_from (title_cmp a.rd_title b.rd_title) lower

  job-rises : (before : List JobColumns) (a b : JobColumns) → is_good_job tables (before ++ a ∷ []) b ≡ true → row_lt a.job_id a.job_title b.job_id b.job_title ≡ true
  job-rises before a b good =
      let lower = ltb-true a.job_id b.job_id (last-passes (λ (earlier : JobColumns). ltb earlier.job_id b.job_id) before a (job-is tables (before ++ a ∷ []) b good).behind) in
      less-then a.job_id b.job_id (title_cmp a.job_title b.job_title) lower

-- ---- all tables

pub rows-behind : (tables : StoreTables) → KeepsRules tables → AreBehind [] (rows_of_tables tables)
rows-behind tables keeps = behind-from (rows_of_tables tables) [] None refl (
    then-rises of_page 0 (λ r. refl) has_good_id page-rises None tables.pages _ tt keeps.ids (λ last0 before0.
    then-rises of_revision 1 (λ r. refl) (is_good_revision tables) (revision-rises tables) last0 tables.revisions _ before0 keeps.revisions (λ last1 before1.
    then-rises of_pagelinks 2 (λ r. refl) (is_good_link tables) (λ before a b first. link-rises tables before a b) last1 tables.pagelinks _ before1 keeps.pagelinks (λ last2 before2.
    then-rises of_templatelinks 3 (λ r. refl) (is_good_link tables) (λ before a b first. link-rises tables before a b) last2 tables.templatelinks _ before2 keeps.templatelinks (λ last3 before3.
    then-rises of_existlinks 4 (λ r. refl) (is_good_link tables) (λ before a b first. link-rises tables before a b) last3 tables.existlinks _ before3 keeps.existlinks (λ last4 before4.
    then-rises of_categorylinks 5 (λ r. refl) (is_good_category tables) (λ before a b first. category-rises tables before a b) last4 tables.categorylinks _ before4 keeps.categorylinks (λ last5 before5.
    then-rises of_redirect 6 (λ r. refl) (is_good_redirect tables) (λ before a b first. redirect-rises tables before a b) last5 tables.redirects _ before5 keeps.redirects (λ last6 before6.
    then-rises of_job 7 (λ r. refl) (is_good_job tables) (λ before a b first. job-rises tables before a b) last6 tables.jobs _ before6 keeps.jobs (λ last7 before7.
    (site-follows last7 before7, tt)))))))))
    )
  where
    site-follows : (o : Option TableRow) → IsBefore 8 o → follows o (of_site (decimal tables.version)) ≡ true
    site-follows None before = refl
    site-follows (Some last) before = ap (λ b. b || (eqb (place_of last).table 8 && row_lt (place_of last).number (place_of last).title 0 no_title)) (lt-ltb _ _ before)
