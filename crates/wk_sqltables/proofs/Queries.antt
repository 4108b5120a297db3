-- The query for the namespace of a page.
use Rattle.std.proofs.Common.{◌≡◌, ◌≤◌, inl, inr, ℕ, ℤ, pos, eqb, int_eq, codes, List, [], ◌∷◌, map, filter, length, find, slice_get, Bool, true, false, not, None, Some, Ok, Err, Result, Option, OnOk, IsTrue, cond, option_map, unwrap_or, refl, sym, ap, subst, ◌∙◌, arith, true≢false}
use Rattle.std.specs.List.Sorted.{IsPermutation}
use Rattle.std.proofs.lemmas.Bool.Decides.{nat_tests}
use Rattle.std.proofs.lemmas.Int.{ints}
use Rattle.sqlite_value.specs.declared.value.Value.TheVariants.{Null, Int}
use Rattle.sqlite_value.specs.Order.{Row, column}
use Rattle.sqlite_sql.specs.Term.{Term, col}
use Rattle.sqlite.specs.Program.{overlay}
use Rattle.sqlite_resolve.specs.declared.compiled.Compiled.{Compiled}
use Rattle.sqlite_schema.specs.declared.command.Returning.{Returning}
use Rattle.sqlite.specs.Clock.{timed}
use Rattle.sqlite.specs.Command.TheVariants.{Select}
use Rattle.sqlite_tied.specs.Compute.{everything}
use Rattle.sqlite.specs.declared.error.Error.{Error}
use Rattle.sqlite.specs.Effect.{Database}
use Rattle.sqlite.specs.Listing.{understood, reads_listing}
use Rattle.sqlite.specs.State.{State, KeepsCommit, IsUnchanged, IsNotRun, FailsToQuery, FailsToShow, QueriesRow, QueriesRowInside, Shown, ShowsRows}
use Rattle.sqlite.proofs.Callers.{IsPlain, command_of, first_as, one_permutation}
use Rattle.sqlite_keyed.proofs.ListLemmas.{filter-map, filter_same, slice_get-filter, none_counted}
use Rattle.sqlite_keyed.proofs.RuleLemmas.{at_most_one}
use Rattle.wk_table_rules.specs.Rows.{PageColumns, StoreTables}
use Rattle.wk_table_rules.specs.Changes.{has_page, namespace_of}
use Rattle.wk_sqltables.specs.StoreSchema.{store_schema}
use Rattle.wk_sqltables.specs.Entries.{entry, page_values}
use Rattle.wk_sqltables.specs.Held.{Holds, HoldTables}
use Rattle.wk_sqltables.specs.Statements.{page_namespace_text}
use Rattle.wk_sqltables.proofs.Picked.{picked, passes_all, shows, picks}
use Rattle.wk_sqltables.proofs.Keyed.{numbers_rise}
use Rattle.wk_sqltables.proofs.Casts.{equal_ints, one_test}
use Rattle.wk_sqltables.proofs.Inside.{unchanged_keeps, unchanged_inside, back_keeps}
use Rattle.wk_sqltables.proofs.Meanings.{by_job}

-- ---- a query within a transaction leaves the last commit

pub not_run_keeps : (old new : State) (sql : List ℕ) (params : Row) (e : Error) → IsNotRun old new sql params e → KeepsCommit old new
unfolding IsNotRun
not_run_keeps old new sql params e (inl h) = unchanged_keeps old new h.1
not_run_keeps old new sql params e (inr h) = back_keeps old new h.3

module _ (sql : List ℕ) (params : Row) (old new : State) (inside : IsTrue old.in_transaction) where
  shows_keeps : (c : Compiled) (given : Row) (rows : List Row) (returning : Option Returning) → ShowsRows old new sql c given rows returning → KeepsCommit old new × IsTrue new.in_transaction
  shows_keeps c given rows None h = (unchanged_keeps old new h.3, unchanged_inside old new h.3 inside)
  shows_keeps c given rows (Some what) h =
      let shown = h.1.shown in (
        record { was_open = λ _. shown.was_open; committed = λ _. shown.committed_is ∙ ap (λ b. cond b old.committed new.now) inside },
        rw shown.mode inside,
      )

  shown_keeps : (rows : List Row) → Shown sql params old new rows → KeepsCommit old new × IsTrue new.in_transaction
  unfolding Shown
  shown_keeps rows h = shows_keeps h.0 (timed params h.0.formats h.1.now) rows h.0.returning h.2

  fails_to_show_keeps : (c : Compiled) (given : Row) (e : Error) (returning : Option Returning) → FailsToShow old new sql c given e returning → KeepsCommit old new
  fails_to_show_keeps c given e None h = unchanged_keeps old new h.3
  fails_to_show_keeps c given e (Some what) (inl h) = unchanged_keeps old new h.1
  fails_to_show_keeps c given e (Some what) (inr h) = back_keeps old new h.3

  fails_keeps : (e : Error) → FailsToQuery sql params old new e → KeepsCommit old new
  unfolding FailsToQuery
  fails_keeps e (inl h) = not_run_keeps old new sql params e h
  fails_keeps e (inr h) = fails_to_show_keeps h.0 (timed params h.0.formats h.1.now) e h.0.returning h.2

  query_keeps : (r : Result Row Error) → QueriesRow sql params old new r → KeepsCommit old new × OnOk r (IsTrue new.in_transaction)
  unfolding QueriesRow
  query_keeps (Ok row) (inl h) = (unchanged_keeps old new h.1, unchanged_inside old new h.1 inside)
  query_keeps (Ok row) (inr h) = shown_keeps h.0 h.1
  query_keeps (Err e) (inl h) = (fails_keeps e h, tt)
  query_keeps (Err e) (inr h) = ((shown_keeps [] h.1).0, tt)

  pub row_keeps : (r : Result Row Error) → QueriesRowInside sql params old new r → KeepsCommit old new × OnOk r (IsTrue new.in_transaction)
  row_keeps (Ok row) h = query_keeps (Ok row) h
  row_keeps (Err e) (inl h) = query_keeps (Err e) h
  row_keeps (Err e) (inr h) = (unchanged_keeps old new h.5, tt)

-- a query that gives a row, and that isn't a write that shows its rows, changes nothing
shown_unchanged : (sql : List ℕ) (params : Row) (old new : State) (rows : List Row) → IsPlain (understood old.now.schema sql) → Shown sql params old new rows → IsUnchanged old new
unfolding Shown
shown_unchanged sql params old new rows plain h =
    let none = (subst IsPlain h.1.is plain).0 in
    let it = subst (ShowsRows old new sql h.0 (timed params h.0.formats h.1.now) rows) none h.2 in
    it.3

pub row_unchanged : (sql : List ℕ) (params : Row) (old new : State) (row : Row) → IsPlain (understood old.now.schema sql) → QueriesRowInside sql params old new (Ok row) → IsUnchanged old new
unfolding QueriesRow
row_unchanged sql params old new row plain (inl h) = h.1
row_unchanged sql params old new row plain (inr h) = shown_unchanged sql params old new h.0 plain h.1

-- ---- the namespace of a page

abbrev project : List Term
project = col 1 2 ∷ []

find_is : (command_of (understood store_schema page_namespace_text) ≡ Select (record { lets = []; body = picked 0 by_job project }) (codes "page_namespace" ∷ [])) × (reads_listing store_schema page_namespace_text ≡ false)
unfolding understood everything
find_is = (refl, refl)

pub find_plain : IsPlain (understood store_schema page_namespace_text)
unfolding understood everything
find_plain = (refl, refl)

number_is : (id : ℕ) (p : PageColumns) → eqb p.page_id id ≡ true → int_eq (pos p.page_id) (pos id) ≡ true
number_is id p h = grind (arith, ints, nat_tests)

first_found : (p : PageColumns → Bool) (pages ones : List PageColumns) → filter p pages ≡ ones → find p pages ≡ slice_get ones 0
first_found p pages ones is = sym (slice_get-filter p pages) ∙ ap (λ l. slice_get l 0) is

one_row : (tables : StoreTables) (id : ℕ) (params row : Row) (tail : List Row) (ones : List PageColumns) → filter (λ p. eqb p.page_id id) tables.pages ≡ ones → length ones ≤ 1 → eqb (length ones) 0 ≡ false
    → IsPermutation (map (shows project params) (map (λ x. entry (page_values x)) ones)) (row ∷ tail) → row ≡ Int (namespace_of tables id) ∷ []
one_row tables id params row tail [] is few some perm = absurd (true≢false some)
one_row tables id params row tail (p ∷ []) is few some perm =
    let alone : row ∷ tail ≡ (Int p.page_title.ns ∷ []) ∷ [] = one_permutation (Int p.page_title.ns ∷ []) (row ∷ tail) perm in
    let found : find (λ q. eqb q.page_id id) tables.pages ≡ Some p = first_found (λ q. eqb q.page_id id) tables.pages (p ∷ []) is in
    let namespace : namespace_of tables id ≡ p.page_title.ns = ap (λ (o : Option PageColumns). unwrap_or (option_map (λ q. q.page_title.ns) o) (pos 0)) found in
    let same : row ≡ Int p.page_title.ns ∷ [] = cc in
    same ∙ ap (λ n. Int n ∷ []) (sym namespace)
one_row tables id params row tail (p ∷ q ∷ more) is few some perm = absurd (omega (arith, few))

pub finds_namespace : (old new : State) (id : ℕ) (row : Row) → QueriesRowInside page_namespace_text (Int (pos id) ∷ []) old new (Ok row) → (tables : StoreTables) → Holds old tables → has_page tables id ≡ true
    → row ≡ Int (namespace_of tables id) ∷ []
finds_namespace old new id row h tables holds has =
    let params = Int (pos id) ∷ [] in
    let db = old.now.trees in
    let pages = tables.pages in
    let are = holds.tables_are.pages in
    let got = (first_as page_namespace_text params old new store_schema holds.schema _ find_is.0 find_plain find_is.1 row h).1 in
    let perm = picks 0 by_job project (overlay db []) params (row ∷ got.0) (got.1 Null) in
    let passed : filter (passes_all by_job params) (db 0) ≡ map (λ x. entry (page_values x)) (filter (λ p. eqb p.page_id id) pages) =
    ap (filter (passes_all by_job params)) are.rows_are ∙ filter-map (passes_all by_job params) (λ x. entry (page_values x)) pages
    ∙ ap (map (λ x. entry (page_values x))) (filter_same (λ x. passes_all by_job params (entry (page_values x))) (λ p. eqb p.page_id id) (λ p. one_test _ _ (equal_ints p.page_id id)) pages) in
    let few = at_most_one (λ (p : PageColumns). pos p.page_id) (pos id) (λ p. eqb p.page_id id) (λ p h. number_is id p h) pages (numbers_rise page_values (λ p. p.page_id) (λ p. refl) (db 0) pages are) in
    let some : eqb (length (filter (λ p. eqb p.page_id id) pages)) 0 ≡ false = none_counted (λ p. eqb p.page_id id) pages ∙ ap not has in
    one_row tables id params row got.0 (filter (λ p. eqb p.page_id id) pages) refl few some (subst (λ l. IsPermutation (map (shows project params) l) (row ∷ got.0)) passed perm)

pub still_holds : (old new : State) (id : ℕ) (row : Row) → QueriesRowInside page_namespace_text (Int (pos id) ∷ []) old new (Ok row) → (tables : StoreTables) → Holds old tables → Holds new tables
still_holds old new id row h tables holds =
    let same = row_unchanged page_namespace_text (Int (pos id) ∷ []) old new row (subst (λ s. IsPlain (understood s page_namespace_text)) (sym holds.schema) find_plain) h in
    record {
      inside = rw same.0.mode holds.inside;
      schema = ap (λ (d : Database). d.schema) same.0.now_is ∙ holds.schema;
      tables_are = subst (λ (d : Database). HoldTables d.trees tables) (sym same.0.now_is) holds.tables_are;
    }

pub read_number : (cells : Row) (n m : ℤ) → cells ≡ Int m ∷ [] → column cells 0 ≡ Int n → n ≡ m
read_number cells n m is read = let both : Int n ≡ Int m = sym read ∙ ap (λ r. column r 0) is in cc
