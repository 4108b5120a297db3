-- The statement that sets a page's row.
use Rattle.std.proofs.Common.{◌≡◌, inl, inr, ℕ, ℤ, pos, ◌/◌, nat_lt, eqb, List, [], ◌∷◌, ◌++◌, map, length, slice_set, Bool, true, false, ◌&&◌, ◌||◌, arith, Option, None, Some, Ok, true≢false, refl, sym, ap, subst, subst₂, ◌∙◌}
use Rattle.std.specs.List.{list_any, list_all, position, position_or_len}
use Rattle.std.proofs.lemmas.Bool.{cases_Bool}
use Rattle.std.proofs.lemmas.Bool.Decides.{nat_tests}
use Rattle.sqlite_value.specs.declared.keys.Collation.TheVariants.{Binary}
use Rattle.sqlite_value.specs.declared.value.Value.TheVariants.{Null, Int, Text}
use Rattle.sqlite_value.specs.Order.{Row}
use Rattle.sqlite_value.specs.Keys.{first_key}
use Rattle.sqlite_trees.specs.Tree.{Trees, rowid, put_row}
use Rattle.sqlite_sql.specs.declared.ops.BinaryOp.TheVariants.{Compare}
use Rattle.sqlite_sql.specs.declared.ops.CompareOp.TheVariants.{Eq}
use Rattle.sqlite_sql.specs.Ops.{binary, is_true}
use Rattle.sqlite_schema.specs.declared.schema.Keys.TheVariants.{Enforced}
use Rattle.sqlite_schema.specs.declared.command.Source.TheVariants.{Values}
use Rattle.sqlite_schema.specs.declared.command.Conflict.TheVariants.{Abort}
use Rattle.sqlite_rules.specs.Lists.{Has}
use Rattle.sqlite_rules.specs.Calls.{ids_of}
use Rattle.sqlite_rules.specs.Keys.{AreConflicts, conflicts}
use Rattle.sqlite_rules.specs.Cast.{cast_row}
use Rattle.sqlite_rules.specs.Edit.{edit_of, with_rowid}
use Rattle.sqlite_rules.specs.declared.error.Rowids.TheVariants.{Chosen, Given}
use Rattle.sqlite_rules.specs.declared.error.Refusal.{Refusal}
use Rattle.sqlite_rules.proofs.ListLemmas.{some_from}
use Rattle.sqlite.specs.Program.{overlay}
use Rattle.sqlite.specs.Command.{Command}
use Rattle.sqlite.specs.Command.TheVariants.{InsertOr}
use Rattle.sqlite.specs.Effect.{Database, value_rows}
use Rattle.sqlite.specs.Does.{Tally, Does}
use Rattle.sqlite.specs.Rows.{Written, Task, Tries, Judged, Upserts, Meets, Clears, Puts, Updates, Resolves, TriesEach, stamped, count_of, shown, nothing}
use Rattle.sqlite.specs.Listing.{understood}
use Rattle.sqlite.specs.State.{State, mode_of, ExecutesInside}
use Rattle.sqlite.proofs.Callers.{statement_of, runs_as, one_step}
use Rattle.wk_table_rules.specs.Rows.{PageColumns}
use Rattle.wk_table_rules.specs.Changes.{set_page, with_page}
use Rattle.wk_sqltables.specs.StoreSchema.{store_schema, page_table}
use Rattle.wk_sqltables.specs.Entries.{entry, page_values}
use Rattle.wk_sqltables.specs.Held.{AreKeyed, KeepsBut, Makes}
use Rattle.wk_sqltables.specs.Statements.{set_page_text}
use Rattle.wk_sqltables.proofs.Picked.{picked, passes_all, shows, picks}
use Rattle.wk_sqltables.proofs.Lists.{none_passes, position_is, position_none, with_first, first_is, put_one, put_last}
use Rattle.wk_sqltables.proofs.Keyed.{numbers_rise, put, updated}
use Rattle.wk_sqltables.proofs.Casts.{cast_null, cast_int, equal_ints, one_test}
use Rattle.wk_sqltables.proofs.Steps.{went, same_value}
use Rattle.wk_sqltables.proofs.Frames.{pages_only}
use Rattle.wk_sqltables.proofs.Meanings.{page_terms, by_page, page_changes, page_clause, set_page_is, set_page_plain}
use Rattle.sqlite_keyed.specs.Keyed.{insert_by}

abbrev number : PageColumns → ℤ
number page = pos page.page_id

-- ---- the pages, with one in the place of the one of its number or at the end

at_some : (rows : List PageColumns) (new : PageColumns) (place : ℕ) → position (λ (row : PageColumns). eqb row.page_id new.page_id) rows ≡ Some place → with_page rows new ≡ slice_set rows place new
at_some rows new place at = rw (at, with_page) refl

at_none : (rows : List PageColumns) (new : PageColumns) → position (λ (row : PageColumns). eqb row.page_id new.page_id) rows ≡ None → with_page rows new ≡ rows ++ new ∷ []
at_none rows new none = rw (none, with_page) refl

abbrev goes_in : List PageColumns → PageColumns → Bool
goes_in pages new = list_any (λ row. eqb row.page_id new.page_id) pages || list_all (λ row. nat_lt row.page_id new.page_id) pages

with_any : (rows : List PageColumns) (new : PageColumns) → list_any (λ row. eqb row.page_id new.page_id) rows ≡ true → with_page rows new ≡ with_first (λ row. eqb row.page_id new.page_id) new rows
with_any rows new any =
    let p : PageColumns → Bool = λ row. eqb row.page_id new.page_id in
    let first = first_is p new rows any in at_some rows new (position_or_len p rows) (position_is p rows (position_or_len p rows) refl first.0) ∙ first.1

with_none : (rows : List PageColumns) (new : PageColumns) → list_any (λ row. eqb row.page_id new.page_id) rows ≡ false → with_page rows new ≡ rows ++ new ∷ []
with_none rows new none = at_none rows new (none_is rows none)
  where
    q : PageColumns → Bool
    q row = eqb row.page_id new.page_id

    past : (ps : List PageColumns) → list_any (λ row. eqb row.page_id new.page_id) ps ≡ false → position_or_len (λ row. eqb row.page_id new.page_id) ps ≡ length ps
    past ps h = none_passes (λ (row : PageColumns). eqb row.page_id new.page_id) ps h

    none_is : (ps : List PageColumns) → list_any (λ row. eqb row.page_id new.page_id) ps ≡ false → position (λ (row : PageColumns). eqb row.page_id new.page_id) ps ≡ None
    none_is ps h = position_none (λ (row : PageColumns). eqb row.page_id new.page_id) ps (length ps) (past ps h) (grind (arith, nat_tests))

or_right : (a b : Bool) → a ≡ false → (a || b) ≡ true → b ≡ true
or_right true b is h = absurd (true≢false is)
or_right false b is h = h

put_is : (rows : List Row) (pages : List PageColumns) (new : PageColumns) → AreKeyed page_values rows pages → goes_in pages new ≡ true → insert_by number pages new ≡ with_page pages new
put_is rows pages new are fit =
    let up = numbers_rise page_values (λ p. p.page_id) (λ p. refl) rows pages are in
    elim (cases_Bool (list_any (λ row. eqb row.page_id new.page_id) pages)) [
      | inl any ↦ put_one (λ p. p.page_id) new pages up any ∙ sym (with_any pages new any)
      | inr none ↦ put_last (λ p. p.page_id) new pages (or_right _ _ none fit) ∙ sym (with_none pages new none)
    ]

-- ---- the statement

module _ (limit : Option ℕ) (page : PageColumns) (db : Trees) (pages : List PageColumns) (are : AreKeyed page_values (db 0) pages) (fit : goes_in pages page ≡ true) where
  abbrev task : Task
  task = record { limit = limit; keys = Enforced; schema = store_schema; table = page_table; params = page_values page }

  pub record IsDone (trees : Trees) : Type 0 where
    pub pages_are : AreKeyed page_values (trees 0) (with_page pages page)
    pub others : KeepsBut 0 db trees

  stays : cast_row page_table (entry (page_values page)) ≡ entry (page_values page)
  stays = rw (cast_int (pos page.page_id), cast_int page.page_title.ns, cast_int (pos page.page_latest), cast_int (pos page.page_len), cast_null) refl

  puts : (w : Written) → Puts task (entry (page_values page)) db (Ok w) → IsDone w.trees
  puts w h =
      let next = went h in
      let step = one_step store_schema Enforced db next.0 (edit_of db page_table [] Given 0 (entry (page_values page) ∷ [])) refl next.1 in
      let trees : w.trees ≡ next.0 = ap (λ (it : Written). it.trees) (same_value next.2) in
      let rows : next.0 0 ≡ put_row (entry (page_values page)) (db 0) =
      step.rows ∙ rw (cast_int (pos page.page_id), cast_int page.page_title.ns, cast_int (pos page.page_latest), cast_int (pos page.page_len), cast_null) refl in
      let more = put page_values (λ p. p.page_id) (λ p. refl) page (db 0) pages are in
      subst IsDone (sym trees) (record { pages_are = subst₂ (AreKeyed page_values) (sym rows) (put_is (db 0) pages page are fit) more; others = step.tables })

  clears : (w : Written) (found : List Row) → Clears task Abort (entry (page_values page)) db found (Ok w) → IsDone w.trees
  clears w [] h = puts w h
  clears w (x ∷ more) h = puts w h

  -- the row of the page is the only one that the update picks
  module _ (p : PageColumns) (here : Has pages p) (same : p.page_id ≡ page.page_id) where
    abbrev given : Row
    given = page_values page ++ Int (pos p.page_id) ∷ shown page_table (entry (page_values page))

    is_it : eqb p.page_id page.page_id ≡ true
    is_it = grind (arith, nat_tests, same)

    updates : (w : Written) → Updates task (record { lets = []; body = picked 0 by_page page_changes }) given db (Ok w) → IsDone w.trees
    updates w h =
        let found = went h in
        let next = went found.2 in
        let perm = picks 0 by_page page_changes (overlay db []) given found.0 (found.1.answer Null) in
        let any : list_any (λ row. eqb row.page_id page.page_id) pages ≡ true = some_from (λ row. eqb row.page_id page.page_id) pages p here is_it in
        let step = one_step store_schema Enforced db next.0 (edit_of db page_table (ids_of found.0) Given 1 found.0) refl next.1 in
        let trees : w.trees ≡ next.0 = ap (λ (it : Written). it.trees) (same_value next.2) in
        let done = updated page_values (λ k. k.page_id) (λ k. refl) page_table page stays (passes_all by_page given) (λ k. one_test _ _ (equal_ints k.page_id p.page_id ∙ ap (eqb k.page_id) same))
        (shows page_changes given) (λ k e. ap (λ n. Int (pos n) ∷ Int (pos n) ∷ Null ∷ Int page.page_title.ns ∷ Text page.page_title.key ∷ Int (pos page.page_latest) ∷ Int (pos page.page_len) ∷ []) e)
        (db 0) pages are any found.0 perm in
        subst IsDone (sym trees) (record { pages_are = subst₂ (AreKeyed page_values) (sym step.rows) (sym (with_any pages page any)) done; others = step.tables })

  has_page_row : (ps : List PageColumns) (r : Row) → Has (map (λ x. entry (page_values x)) ps) r → (p : PageColumns) × Has ps p × (r ≡ entry (page_values p))
  has_page_row [] r h = absurd h
  has_page_row (q ∷ qs) r (inl is) = (q, inl refl, is)
  has_page_row (q ∷ qs) r (inr later) = let more = has_page_row qs r later in (more.0, inr more.1, more.2)

  first_true : (b : Bool) → ((b && true) || false) ≡ true → b ≡ true
  first_true true h = refl
  first_true false h = h

  as_number : (p : PageColumns) → conflicts (Some (0 ∷ [])) store_schema.indexes page_table (entry (page_values page)) (entry (page_values p))
      ≡ ((is_true (binary (Compare Eq Binary) (Int (pos p.page_id)) (Int (pos page.page_id))) && true) || false)
  unfolding first_key
  as_number p = refl

  meets_by_number : (p : PageColumns) → conflicts (Some (0 ∷ [])) store_schema.indexes page_table (entry (page_values page)) (entry (page_values p)) ≡ true → p.page_id ≡ page.page_id
  meets_by_number p h = let eq : eqb p.page_id page.page_id ≡ true = sym (equal_ints p.page_id page.page_id) ∙ first_true _ (sym (as_number p) ∙ h) in grind (arith, nat_tests)

  met : (w : Written) (found : List Row) → AreConflicts (Some (0 ∷ [])) store_schema.indexes page_table (db 0) (entry (page_values page)) found
      → Meets task (Upserts task Abort (entry (page_values page)) db []) (entry (page_values page)) db page_clause found (Ok w) → IsDone w.trees
  met w [] conflict h = clears w h.0 h.2
  met w (there ∷ more) conflict h =
      let at = conflict.sound there (inl refl) in
      let of_page = has_page_row pages at.0 (subst (λ l. Has l at.0) are.rows_are at.1) in
      let same = meets_by_number of_page.0 (subst (λ r. conflicts (Some (0 ∷ [])) store_schema.indexes page_table (entry (page_values page)) r ≡ true) of_page.2 at.2) in
      let is : there ≡ Int (pos of_page.0.page_id) ∷ [] = at.3 ∙ ap (λ r. rowid r ∷ []) of_page.2 in
      updates of_page.0 of_page.1 same w (subst (λ t. Resolves task (entry (page_values page)) db t page_clause.update (Ok w)) is h)

  judged : (w : Written) (verdict : Option Refusal) → Judged task Abort (page_clause ∷ []) (entry (page_values page)) db verdict (Ok w) → IsDone w.trees
  judged w None h = met w h.0 h.1 h.2
  judged w (Some why) h = absurd (let e = h in cc)

  tried : (w : Written) → Tries task Abort (page_clause ∷ []) (entry (page_values page)) db (Ok w) → IsDone w.trees
  tried w (inl refused) = absurd (let e = refused.1 in cc)
  tried w (inr went_on) = judged w went_on.0 went_on.2

  -- the one row of the statement
  each_is : (rows : List Row) → rows ≡ value_rows (stamped page_table (page_values page)) 6 (length page_terms / 6) page_terms → (counter : Option Row) (out : Written × ℤ)
      → TriesEach task Abort (page_clause ∷ []) rows (count_of counter) (nothing db) (Ok out) → IsDone out.0.trees
  each_is rows is counter out h =
      let row : Row = Int (pos page.page_id) ∷ Null ∷ Int page.page_title.ns ∷ Text page.page_title.key ∷ Int (pos page.page_latest) ∷ Int (pos page.page_len) ∷ [] in
      let one = went (subst (λ l. TriesEach task Abort (page_clause ∷ []) l (count_of counter) (nothing db) (Ok out)) is h) in
      let new : with_rowid Chosen (db 0) (cast_row page_table row) ≡ entry (page_values page) = rw (cast_int (pos page.page_id), cast_int page.page_title.ns, cast_int (pos page.page_latest), cast_int (pos page.page_len), cast_null) refl in
      let first = tried one.0 (subst (λ r. Tries task Abort (page_clause ∷ []) r db (Ok one.0)) new one.1) in
      subst IsDone (sym (ap (λ (o : Written × ℤ). o.0.trees) (same_value one.2))) first

pub sets_page : (old new : State) (count : ℕ) (page : PageColumns) → ExecutesInside 0 set_page_text (page_values page) old new (Ok count) → Makes old new (set_page page)
sets_page old new count page h tables holds fit =
    let params = page_values page in
    let db = old.now.trees in
    let command : Command = InsertOr 0 Abort (Values page_terms 6) (page_clause ∷ []) in
    let w = runs_as set_page_text params old new store_schema holds.schema command set_page_is set_page_plain count h.0 in
    let text = statement_of set_page_text (understood store_schema set_page_text) in
    let done = went (subst (λ s. Does old.step_limit (mode_of old) params (record old.now { schema = s }) text None command (Ok (w.tally, new.now))) holds.schema w.changed) in
    let now = ap (λ (p : Tally × Database). p.1) (same_value (went (went done.2).2).2) in
    let given = went done.1 in
    let counter = went given.2 in
    let each = went counter.2 in
    let next = went each.2 in
    let uncounted : each.0.0.trees ≡ next.0 = sym (same_value next.1) in
    let one = each_is old.step_limit page db tables.pages holds.tables_are.pages fit given.0 given.1.1 counter.0 each.0 each.1 in
    let trees : new.now.trees ≡ each.0.0.trees = ap (λ (d : Database). d.trees) now ∙ ap (λ (it : Written). it.trees) (same_value next.2) ∙ sym uncounted in
    let is = subst (IsDone old.step_limit page db tables.pages holds.tables_are.pages fit) (sym trees) one in
    record { inside = rw h.1.mode refl; schema = ap (λ (d : Database). d.schema) now; tables_are = pages_only db new.now.trees tables holds.tables_are is.others (with_page tables.pages page) is.pages_are }
