-- Tables that are told row by row.
use Rattle.std.proofs.Common.{◌≡◌, ℕ, List, [], ◌∷◌, ◌++◌, map, Option, Some, None, unwrap_or, option_and_then, refl, ap, ◌∙◌}
use Rattle.std.specs.List.{cons_option, filter_map, last_or}
use Rattle.std.proofs.lemmas.List.{map-append}
use Rattle.wk_table_rules.specs.GoodStore.{first_broken}
use Rattle.wk_text_rules.specs.Decimal.{decimal_number}
use Rattle.wk_table_rules.specs.Rows.{no_tables, PageColumns, RevisionColumns, LinkColumns, CategoryColumns, RedirectColumns, JobColumns, StoreTables}
use Rattle.wk_feed_rules.specs.Lines.{TableRow, of_page, of_revision, of_pagelinks, of_templatelinks, of_existlinks, of_categorylinks, of_redirect, of_job, of_site}
use Rattle.wk_feed_rules.specs.Taking.{category_in, existlinks_in, job_in, page_in, pagelinks_in, redirect_in, revision_in, tables_of_rows, templatelinks_in, version_in}
use Rattle.wk_feed_lines.specs.Said.{row_of}
use Rattle.wk_feed_lines.specs.declared.line.FeedRow.{FeedRow}
use Rattle.wk_replica.specs.Loaded.{with_row_more}

-- one item more, of which something is given
some-more : {X Y : Type 0} (f : X → Option Y) (xs : List X) (x : X) (y : Y) → f x ≡ Some y → filter_map f (xs ++ x ∷ []) ≡ filter_map f xs ++ y ∷ []
some-more f [] x y is = ap (λ o. cons_option o []) is
some-more f (a ∷ xs) x y is = ap (cons_option (f a)) (some-more f xs x y is) ∙ by (f a)
  where
    by : (o : Option _) → cons_option o (filter_map f xs ++ y ∷ []) ≡ cons_option o (filter_map f xs) ++ y ∷ []
    by None = refl
    by (Some b) = refl

-- one item more, of which nothing is given
none-more : {X Y : Type 0} (f : X → Option Y) (xs : List X) (x : X) → f x ≡ None → filter_map f (xs ++ x ∷ []) ≡ filter_map f xs
none-more f [] x is = ap (λ o. cons_option o []) is
none-more f (a ∷ xs) x is = ap (cons_option (f a)) (none-more f xs x is)

last-more : {X : Type 0} (o : Option X) (xs : List X) (x : X) → last_or o (xs ++ x ∷ []) ≡ Some x
last-more o [] x = refl
last-more o (a ∷ xs) x = last-more (Some a) xs x

abbrev version_told : List (List ℕ) → ℕ
version_told versions = unwrap_or (option_and_then decimal_number (last_or None versions)) 0

abbrev tables_with : List PageColumns → List RevisionColumns → List LinkColumns → List LinkColumns → List LinkColumns → List CategoryColumns → List RedirectColumns → List JobColumns → ℕ → StoreTables
tables_with p r pl tl el c rd j v = record {
  pages = p;
  revisions = r;
  pagelinks = pl;
  templatelinks = tl;
  existlinks = el;
  categorylinks = c;
  redirects = rd;
  jobs = j;
  version = v;
}

-- tables that have the same parts
same-tables : (one two : StoreTables) → one.pages ≡ two.pages → one.revisions ≡ two.revisions → one.pagelinks ≡ two.pagelinks → one.templatelinks ≡ two.templatelinks
    → one.existlinks ≡ two.existlinks → one.categorylinks ≡ two.categorylinks → one.redirects ≡ two.redirects → one.jobs ≡ two.jobs → one.version ≡ two.version → one ≡ two
same-tables one two pages revisions pagelinks templatelinks existlinks categorylinks redirects jobs version =
    ap (λ x. tables_with x one.revisions one.pagelinks one.templatelinks one.existlinks one.categorylinks one.redirects one.jobs one.version) pages
    ∙ (ap (λ x. tables_with two.pages x one.pagelinks one.templatelinks one.existlinks one.categorylinks one.redirects one.jobs one.version) revisions
    ∙ (ap (λ x. tables_with two.pages two.revisions x one.templatelinks one.existlinks one.categorylinks one.redirects one.jobs one.version) pagelinks
    ∙ (ap (λ x. tables_with two.pages two.revisions two.pagelinks x one.existlinks one.categorylinks one.redirects one.jobs one.version) templatelinks
    ∙ (ap (λ x. tables_with two.pages two.revisions two.pagelinks two.templatelinks x one.categorylinks one.redirects one.jobs one.version) existlinks
    ∙ (ap (λ x. tables_with two.pages two.revisions two.pagelinks two.templatelinks two.existlinks x one.redirects one.jobs one.version) categorylinks
    ∙ (ap (λ x. tables_with two.pages two.revisions two.pagelinks two.templatelinks two.existlinks two.categorylinks x one.jobs one.version) redirects
    ∙ (ap (λ x. tables_with two.pages two.revisions two.pagelinks two.templatelinks two.existlinks two.categorylinks two.redirects x one.version) jobs
    ∙ ap (λ x. tables_with two.pages two.revisions two.pagelinks two.templatelinks two.existlinks two.categorylinks two.redirects two.jobs x) version)))))))

one-more : (rows : List TableRow) (new : TableRow) → tables_of_rows (rows ++ new ∷ []) ≡ with_row_more (tables_of_rows rows) new
one-more rows (of_page p) = let new = of_page p in
    same-tables (tables_of_rows (rows ++ new ∷ [])) (with_row_more (tables_of_rows rows) new)
    (some-more page_in rows new p refl) (none-more revision_in rows new refl) (none-more pagelinks_in rows new refl) (none-more templatelinks_in rows new refl)
    (none-more existlinks_in rows new refl) (none-more category_in rows new refl) (none-more redirect_in rows new refl) (none-more job_in rows new refl)
    (ap version_told (none-more version_in rows new refl))
one-more rows (of_revision r) = let new = of_revision r in
    same-tables (tables_of_rows (rows ++ new ∷ [])) (with_row_more (tables_of_rows rows) new)
    (none-more page_in rows new refl) (some-more revision_in rows new r refl) (none-more pagelinks_in rows new refl) (none-more templatelinks_in rows new refl)
    (none-more existlinks_in rows new refl) (none-more category_in rows new refl) (none-more redirect_in rows new refl) (none-more job_in rows new refl)
    (ap version_told (none-more version_in rows new refl))
one-more rows (of_pagelinks l) = let new = of_pagelinks l in
    same-tables (tables_of_rows (rows ++ new ∷ [])) (with_row_more (tables_of_rows rows) new)
    (none-more page_in rows new refl) (none-more revision_in rows new refl) (some-more pagelinks_in rows new l refl) (none-more templatelinks_in rows new refl)
    (none-more existlinks_in rows new refl) (none-more category_in rows new refl) (none-more redirect_in rows new refl) (none-more job_in rows new refl)
    (ap version_told (none-more version_in rows new refl))
one-more rows (of_templatelinks l) = let new = of_templatelinks l in
    same-tables (tables_of_rows (rows ++ new ∷ [])) (with_row_more (tables_of_rows rows) new)
    (none-more page_in rows new refl) (none-more revision_in rows new refl) (none-more pagelinks_in rows new refl) (some-more templatelinks_in rows new l refl)
    (none-more existlinks_in rows new refl) (none-more category_in rows new refl) (none-more redirect_in rows new refl) (none-more job_in rows new refl)
    (ap version_told (none-more version_in rows new refl))
one-more rows (of_existlinks l) = let new = of_existlinks l in
    same-tables (tables_of_rows (rows ++ new ∷ [])) (with_row_more (tables_of_rows rows) new)
    (none-more page_in rows new refl) (none-more revision_in rows new refl) (none-more pagelinks_in rows new refl) (none-more templatelinks_in rows new refl)
    (some-more existlinks_in rows new l refl) (none-more category_in rows new refl) (none-more redirect_in rows new refl) (none-more job_in rows new refl)
    (ap version_told (none-more version_in rows new refl))
one-more rows (of_categorylinks c) = let new = of_categorylinks c in
    same-tables (tables_of_rows (rows ++ new ∷ [])) (with_row_more (tables_of_rows rows) new)
    (none-more page_in rows new refl) (none-more revision_in rows new refl) (none-more pagelinks_in rows new refl) (none-more templatelinks_in rows new refl)
    (none-more existlinks_in rows new refl) (some-more category_in rows new c refl) (none-more redirect_in rows new refl) (none-more job_in rows new refl)
    (ap version_told (none-more version_in rows new refl))
one-more rows (of_redirect r) = let new = of_redirect r in
    same-tables (tables_of_rows (rows ++ new ∷ [])) (with_row_more (tables_of_rows rows) new)
    (none-more page_in rows new refl) (none-more revision_in rows new refl) (none-more pagelinks_in rows new refl) (none-more templatelinks_in rows new refl)
    (none-more existlinks_in rows new refl) (none-more category_in rows new refl) (some-more redirect_in rows new r refl) (none-more job_in rows new refl)
    (ap version_told (none-more version_in rows new refl))
one-more rows (of_job j) = let new = of_job j in
    same-tables (tables_of_rows (rows ++ new ∷ [])) (with_row_more (tables_of_rows rows) new)
    (none-more page_in rows new refl) (none-more revision_in rows new refl) (none-more pagelinks_in rows new refl) (none-more templatelinks_in rows new refl)
    (none-more existlinks_in rows new refl) (none-more category_in rows new refl) (none-more redirect_in rows new refl) (some-more job_in rows new j refl)
    (ap version_told (none-more version_in rows new refl))
one-more rows (of_site v) = let new = of_site v in
    same-tables (tables_of_rows (rows ++ new ∷ [])) (with_row_more (tables_of_rows rows) new)
    (none-more page_in rows new refl) (none-more revision_in rows new refl) (none-more pagelinks_in rows new refl) (none-more templatelinks_in rows new refl)
    (none-more existlinks_in rows new refl) (none-more category_in rows new refl) (none-more redirect_in rows new refl) (none-more job_in rows new refl)
    (ap version_told (some-more version_in rows new v refl) ∙ ap (λ o. unwrap_or (option_and_then decimal_number o) 0) (last-more None (filter_map version_in rows) v))

pub tables_more : (before : List FeedRow) (entry : FeedRow) → tables_of_rows (map row_of (before ++ entry ∷ [])) ≡ with_row_more (tables_of_rows (map row_of before)) (row_of entry)
tables_more before entry = ap tables_of_rows (map-append row_of before (entry ∷ [])) ∙ one-more (map row_of before) (row_of entry)

-- a new store is good
pub none-broken : first_broken no_tables ≡ None
unfolding first_broken
none-broken = refl
