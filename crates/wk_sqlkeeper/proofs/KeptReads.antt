-- What is read of a store is what it keeps.
use Rattle.std.proofs.Common.{◌≡◌, ◌<◌, ◌^◌, ℕ, ℤ, false, List, [], ◌∷◌, map, filter, codes, true, Ok, Some, None, refl, sym, ap, subst, ◌∙◌, Ordering, inl, inr, IsPermutation, IsSorted, ◌&&◌, ◌+◌, ◌-◌, ◌*◌, rules, ltb, Result, Err, IfOk, OnOk}
use Rattle.std.specs.Char.{is_ascii_digit}
use Rattle.std.specs.Cmp.{IsTotalOrder}
use Rattle.std.specs.Fmt.{decimal}
use Rattle.std.specs.List.{AllByRecursion, list_all, fold}
use Rattle.std.proofs.lemmas.Bool.{cases_Bool}
use Rattle.std.proofs.lemmas.Cmp.{nat_cmp_total, on_total, then_total}
use Rattle.std.proofs.lemmas.Fmt.{digits_value-decimal}
use Rattle.std.proofs.lemmas.List.Sorted.{IsPermutation-trans}
use Rattle.std.proofs.lemmas.Str.Parse.{IsNumeralModel, numerals_by_fold}
use Rattle.sqlite_value.specs.declared.value.Value.{Value}
use Rattle.sqlite_value.specs.declared.value.Value.TheVariants.{Null, Int, Text}
use Rattle.sqlite_value.specs.Order.{Row, column}
use Rattle.sqlite_sql.specs.Term.{col}
use Rattle.sqlite_sql.specs.declared.ops.CompareOp.TheVariants.{Eq}
use Rattle.sqlite_typed.proofs.TestLemmas.{at_texts, bytes_eq_refl}
use Rattle.sqlite.specs.Clock.{timed}
use Rattle.sqlite.specs.Effect.{Database}
use Rattle.sqlite.specs.Listing.{understood}
use Rattle.sqlite.specs.Program.{overlay}
use Rattle.sqlite.specs.State.{State, IsUnchanged, QueriesRow, Shown, ShowsRows}
use Rattle.sqlite.proofs.Callers.{IsPlain, first_as, one_permutation}
use Rattle.sqlite_keyed.proofs.SortLemmas.{sorted_unique, IsPermutation-sort_by}
use Rattle.wk_text_rules.specs.Decimal.{decimal_number, digits_value, is_decimal}
use Rattle.wk_table_rules.specs.Rows.{PageColumns, RevisionColumns, LinkColumns, CategoryColumns, RedirectColumns, JobColumns, StoreTables, category_title}
use Rattle.wk_sqltables.specs.StoreSchema.{store_schema}
use Rattle.wk_sqltables.specs.Entries.{page_values, revision_values, link_values, member_values, redirect_values, job_values}
use Rattle.wk_sqltables.specs.Held.{AreListed, HoldTables, IsVersion, link_cmp, member_cmp}
use Rattle.wk_sqltables.specs.Edits.{Keeps}
use Rattle.wk_sqlkeeper.specs.Queries.{pages_text, revisions_text, pagelinks_text, templatelinks_text, existlinks_text, categorylinks_text, redirects_text, jobs_text, version_text}
use Rattle.wk_sqlkeeper.specs.Stored.{IsPage, IsRevision, IsLink, IsMember, IsRedirect, IsJob}
use Rattle.wk_sqlkeeper.specs.Reading.{ReadsAll}
use Rattle.wk_sqlkeeper.specs.Decoded.{page_in, revision_in, link_in, member_in, redirect_in, job_in}
use Rattle.wk_sqlkeeper.proofs.Decoding.{page_is, revision_is, revision_again, link_is, member_is, redirect_is, job_is, same_read, moved_read, all_fit}
use Rattle.wk_sqlkeeper.proofs.ListQueries.{Lists, gives_keyed, gives_listed}
use Rattle.wk_sqltables.proofs.Casts.{one_test}
use Rattle.wk_sqltables.proofs.LinkSets.{title_total}
use Rattle.wk_sqltables.proofs.Picked.{picks, passes_all, shows}
use Rattle.wk_sqlkeeper.proofs.QueryMeanings.{page_project, lists_pages, shows_pages, revision_project, lists_revisions, shows_revisions, redirect_project, lists_redirects, shows_redirects, job_project, lists_jobs, shows_jobs, four, link_keys, link_shown, shows_links, lists_pagelinks, lists_templatelinks, lists_existlinks, member_keys, member_shown, shows_members, lists_categorylinks, by_version, version_is, version_plain}

-- ---- what a query leaves

pub still_keeps : (old new : State) (tables : StoreTables) → IsUnchanged old new → Keeps old tables → Keeps new tables
still_keeps old new tables same keeps = record {
  is_open = same.0.is_open;
  settled = same.0.now_is ∙ keeps.settled ∙ sym same.0.committed_is;
  schema = ap (λ (d : Database). d.schema) same.0.now_is ∙ keeps.schema;
  tables_are = subst (λ (d : Database). HoldTables d.trees tables) (sym same.0.now_is) keeps.tables_are;
}

pub shown_unchanged : (sql : List ℕ) (old new : State) (rows : List Row) → IsPlain (understood old.now.schema sql) → Shown sql [] old new rows → IsUnchanged old new
unfolding Shown
shown_unchanged sql old new rows plain h =
    let none = (subst IsPlain h.1.is plain).0 in
    let it = subst (ShowsRows old new sql h.0 (timed [] h.0.formats h.1.now) rows) none h.2 in
    it.3

-- a text that is plain over our tables is plain over a store that keeps them
pub plain_there : (sql : List ℕ) (s : State) (tables : StoreTables) → IsPlain (understood store_schema sql) → Keeps s tables → IsPlain (understood s.now.schema sql)
plain_there sql s tables plain keeps = subst (λ schema. IsPlain (understood schema sql)) (sym keeps.schema) plain

-- ---- tables whose first column is the row number

pub reads_pages : (old new : State) (read : List PageColumns) → ReadsAll IsPage pages_text old new read → (tables : StoreTables) → Keeps old tables → read ≡ tables.pages
reads_pages old new read h tables keeps =
    same_read IsPage page_in page_is page_values (λ x. Unit {0}) (λ x fits. refl) tables.pages read h.shown (all_fit tables.pages)
    (gives_keyed page_values (λ x. x.page_id) 0 page_project shows_pages pages_text _ lists_pages old new tables.pages h.shown keeps.schema keeps.tables_are.pages h.all) h.read

pub reads_revisions : (old new : State) (read : List RevisionColumns) → ReadsAll IsRevision revisions_text old new read → (tables : StoreTables) → Keeps old tables → AllByRecursion (λ x. x.rev_timestamp < 2 ^ 64) tables.revisions → read ≡ tables.revisions
reads_revisions old new read h tables keeps low =
    same_read IsRevision revision_in revision_is revision_values (λ x. x.rev_timestamp < 2 ^ 64) revision_again tables.revisions read h.shown low
    (gives_keyed revision_values (λ x. x.rev_id) 2 revision_project shows_revisions revisions_text _ lists_revisions old new tables.revisions h.shown keeps.schema keeps.tables_are.revisions h.all) h.read

pub reads_redirects : (old new : State) (read : List RedirectColumns) → ReadsAll IsRedirect redirects_text old new read → (tables : StoreTables) → Keeps old tables → read ≡ tables.redirects
reads_redirects old new read h tables keeps =
    same_read IsRedirect redirect_in redirect_is redirect_values (λ x. Unit {0}) (λ x fits. refl) tables.redirects read h.shown (all_fit tables.redirects)
    (gives_keyed redirect_values (λ x. x.rd_from) 14 redirect_project shows_redirects redirects_text _ lists_redirects old new tables.redirects h.shown keeps.schema keeps.tables_are.redirects h.all) h.read

pub reads_jobs : (old new : State) (read : List JobColumns) → ReadsAll IsJob jobs_text old new read → (tables : StoreTables) → Keeps old tables → read ≡ tables.jobs
reads_jobs old new read h tables keeps =
    same_read IsJob job_in job_is job_values (λ x. Unit {0}) (λ x fits. refl) tables.jobs read h.shown (all_fit tables.jobs)
    (gives_keyed job_values (λ x. x.job_id) 11 job_project shows_jobs jobs_text _ lists_jobs old new tables.jobs h.shown keeps.schema keeps.tables_are.jobs h.all) h.read

-- ---- tables in an order of their own

pub link_total : IsTotalOrder link_cmp
link_total = then_total (on_total (λ (l : LinkColumns). l.from) nat_cmp_total) (on_total (λ (l : LinkColumns). l.target) title_total)

pub member_total : IsTotalOrder member_cmp
member_total = then_total (on_total (λ (m : CategoryColumns). m.cl_from) nat_cmp_total) (on_total (λ (m : CategoryColumns). category_title m.cl_to) title_total)

-- what was read in some order and then sorted is the table
sorted_is : {X : Type 0} (cmp : X → X → Ordering) → IsTotalOrder cmp → {values : X → Row} {rows : List Row} {items : List X} (are : AreListed values cmp rows items) (read sorted : List X) → IsPermutation are.stored read → IsPermutation read sorted → IsSorted cmp sorted → sorted ≡ items
sorted_is cmp total {values} {rows} {items} are read sorted first then up =
    let all : IsPermutation items are.stored = subst (λ l. IsPermutation l are.stored) (sym are.items_are) (IsPermutation-sort_by cmp total are.stored) in
    sorted_unique cmp total items sorted are.apart (IsPermutation-trans _ _ _ all (IsPermutation-trans _ _ _ first then)) up

module _ (text : List ℕ) (tree : ℕ) (names : List (List ℕ)) (lists : Lists text tree four link_keys names) where
  reads_links : (old new : State) (read sorted items : List LinkColumns) → ReadsAll IsLink text old new read → old.now.schema ≡ store_schema → AreListed link_values link_cmp (old.now.trees tree) items → IsPermutation read sorted → IsSorted link_cmp sorted → sorted ≡ items
  reads_links old new read sorted items h schema are same up =
      let first = moved_read IsLink link_in link_is link_values (λ x. Unit {0}) (λ x fits. refl) are.stored read h.shown (all_fit are.stored)
      (gives_listed link_values tree four link_keys link_shown (shows_links tree) text names lists old new are.stored h.shown schema are.stored_are h.all) h.read in
      sorted_is link_cmp link_total are read sorted first same up

pub reads_pagelinks : (old new : State) (read sorted : List LinkColumns) → ReadsAll IsLink pagelinks_text old new read → IsPermutation read sorted → IsSorted link_cmp sorted → (tables : StoreTables) → Keeps old tables → sorted ≡ tables.pagelinks
reads_pagelinks old new read sorted h same up tables keeps = reads_links pagelinks_text 3 _ lists_pagelinks old new read sorted tables.pagelinks h keeps.schema keeps.tables_are.pagelinks same up

pub reads_templatelinks : (old new : State) (read sorted : List LinkColumns) → ReadsAll IsLink templatelinks_text old new read → IsPermutation read sorted → IsSorted link_cmp sorted → (tables : StoreTables) → Keeps old tables → sorted ≡ tables.templatelinks
reads_templatelinks old new read sorted h same up tables keeps = reads_links templatelinks_text 5 _ lists_templatelinks old new read sorted tables.templatelinks h keeps.schema keeps.tables_are.templatelinks same up

pub reads_existlinks : (old new : State) (read sorted : List LinkColumns) → ReadsAll IsLink existlinks_text old new read → IsPermutation read sorted → IsSorted link_cmp sorted → (tables : StoreTables) → Keeps old tables → sorted ≡ tables.existlinks
reads_existlinks old new read sorted h same up tables keeps = reads_links existlinks_text 7 _ lists_existlinks old new read sorted tables.existlinks h keeps.schema keeps.tables_are.existlinks same up

pub reads_categorylinks : (old new : State) (read sorted : List CategoryColumns) → ReadsAll IsMember categorylinks_text old new read → IsPermutation read sorted → IsSorted member_cmp sorted → (tables : StoreTables) → Keeps old tables → sorted ≡ tables.categorylinks
reads_categorylinks old new read sorted h same up tables keeps =
    let are = keeps.tables_are.categorylinks in
    let first = moved_read IsMember member_in member_is member_values (λ x. Unit {0}) (λ x fits. refl) are.stored read h.shown (all_fit are.stored)
    (gives_listed member_values 9 four member_keys member_shown shows_members categorylinks_text _ lists_categorylinks old new are.stored h.shown keeps.schema are.stored_are h.all) h.read in
    sorted_is member_cmp member_total are read sorted first same up

-- ---- the version

read_on : ℕ → List ℕ → ℕ
read_on n ds = fold (λ m d. 10 * m + (d - 48)) n ds

own : IsNumeralModel (λ ds. list_all is_ascii_digit ds ≡ true) (read_on 0)
unfolding read_on
own = numerals_by_fold (λ ds. list_all is_ascii_digit ds ≡ true) (search rules) read_on (search rules)

pub value_back : (v : ℕ) → v < 2 ^ 64 → digits_value (decimal v) ≡ v
unfolding read_on
value_back v low = digits_value-decimal own v low

pub number_back : (ds : List ℕ) (n v : ℕ) → decimal_number ds ≡ Some n → ds ≡ decimal v → v < 2 ^ 64 → n ≡ v
unfolding decimal_number read_on
number_back ds n v is are low = elim (cases_Bool (is_decimal ds && ltb (digits_value ds) (2 ^ 64))) [
  | inl legal ↦ (let e : Some (digits_value ds) ≡ Some n = rw legal at is in let value : digits_value ds ≡ n = cc in sym value ∙ ap digits_value are ∙ value_back v low)
  | inr wrong ↦ absurd (let e : None ≡ Some n = rw wrong at is in cc)
]

abbrev row_of : ℤ → List ℕ → Row
row_of n text = Int n ∷ Text (codes "version") ∷ Text text ∷ []

passes : (n : ℤ) (text : List ℕ) → passes_all by_version [] (row_of n text) ≡ true
passes n text = one_test _ _ (at_texts false Eq (codes "version") (codes "version") ∙ bytes_eq_refl (codes "version"))

one_passes : (n : ℤ) (text : List ℕ) → filter (passes_all by_version []) (row_of n text ∷ []) ≡ row_of n text ∷ []
one_passes n text = rw (passes n text) refl

pub reads_version : (old new : State) (row : Row) → QueriesRow version_text [] old new (Ok row) → (tables : StoreTables) → Keeps old tables → row ≡ Text (decimal tables.version) ∷ []
reads_version old new row h tables keeps =
    let db = old.now.trees in
    let are : IsVersion (db 12) tables.version = keeps.tables_are.version in
    let got = (first_as version_text [] old new store_schema keeps.schema _ version_is.0 version_plain version_is.1 row h).1 in
    let perm = picks 12 by_version (col 1 2 ∷ []) (overlay db []) [] (row ∷ got.0) (got.1 Null) in
    let one : map (shows (col 1 2 ∷ []) []) (filter (passes_all by_version []) (db 12)) ≡ (Text (decimal tables.version) ∷ []) ∷ [] =
    ap (λ l. map (shows (col 1 2 ∷ []) []) (filter (passes_all by_version []) l)) are.rows_are ∙ ap (map (shows (col 1 2 ∷ []) [])) (one_passes are.number (decimal tables.version)) in
    let alone : row ∷ got.0 ≡ (Text (decimal tables.version) ∷ []) ∷ [] = one_permutation (Text (decimal tables.version) ∷ []) (row ∷ got.0) (subst (λ l. IsPermutation l (row ∷ got.0)) one perm) in
    cc

pub version_read : (cells : Row) (text : List ℕ) (v : ℕ) → cells ≡ Text (decimal v) ∷ [] → column cells 0 ≡ Text text → text ≡ decimal v
version_read cells text v is read = let both : Text text ≡ Text (decimal v) = sym read ∙ ap (λ r. column r 0) is in cc

-- a query that gives a row, and that isn't a write that shows its rows, changes nothing
pub row_unchanged : (sql : List ℕ) (old new : State) (row : Row) → IsPlain (understood old.now.schema sql) → QueriesRow sql [] old new (Ok row) → IsUnchanged old new
unfolding QueriesRow
row_unchanged sql old new row plain (inl h) = h.1
row_unchanged sql old new row plain (inr h) = shown_unchanged sql old new h.0 plain h.1

-- ---- answers of queries that are plain wherever the store keeps tables

module _ {A E Plain : Type 0} {P : A → Type 0} where
  pub if_plain : {Q : A → Type 0} (r : Result A E) → (Plain → IfOk r P) → ((a : A) → (Plain → P a) → Q a) → IfOk r Q
  if_plain (Ok a) h f = f a h
  if_plain (Err e) h f = tt

  pub on_plain : {Q : Type 0} (r : Result A E) → (Plain → IfOk r P) → ((a : A) → (Plain → P a) → Q) → OnOk r Q
  on_plain (Ok a) h f = f a h
  on_plain (Err e) h f = tt

pub all_keep : {R : Type 0} (stands : List Value → R → Type 0) (text : List ℕ) (old new : State) (read : List R) (tables : StoreTables) → IsPlain (understood store_schema text) → Keeps old tables → (IsPlain (understood old.now.schema text) → ReadsAll stands text old new read) → Keeps new tables
all_keep stands text old new read tables plain keeps get =
    let there = plain_there text old tables plain keeps in
    let h = get there in
    still_keeps old new tables (shown_unchanged text old new h.shown there h.all) keeps
