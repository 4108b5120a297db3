-- The statements on the table redirect.
use Rattle.std.proofs.Common.{◌≡◌, ℕ, ℤ, pos, nat_lt, eqb, Bool, true, false, not, cond, arith, List, [], ◌∷◌, filter, None, Some, Ok, refl, sym, ap, subst, ◌∙◌, int_cmp, Less, Greater}
use Rattle.std.specs.List.{AllByRecursion}
use Rattle.std.proofs.lemmas.Bool.Decides.{nat_tests}
use Rattle.std.proofs.lemmas.Int.{ints}
use Rattle.sqlite_value.specs.declared.keys.Collation.TheVariants.{Binary}
use Rattle.sqlite_value.specs.declared.value.Value.TheVariants.{Null, Int}
use Rattle.sqlite_trees.specs.Tree.{put_row}
use Rattle.sqlite_sql.specs.declared.ops.BinaryOp.TheVariants.{Compare}
use Rattle.sqlite_sql.specs.declared.ops.CompareOp.TheVariants.{Eq}
use Rattle.sqlite_sql.specs.Term.{Term, lit, col, op2}
use Rattle.sqlite_schema.specs.declared.command.Source.TheVariants.{Values}
use Rattle.sqlite_rules.specs.Edit.{edited, edit_of}
use Rattle.sqlite_rules.specs.declared.error.Rowids.TheVariants.{Chosen}
use Rattle.sqlite_keyed.specs.Keyed.{insert_by}
use Rattle.sqlite.specs.Command.TheVariants.{Delete, Insert}
use Rattle.sqlite_tied.specs.Compute.{everything}
use Rattle.sqlite.specs.Effect.{value_rows}
use Rattle.sqlite.specs.Listing.{understood}
use Rattle.sqlite.specs.Rows.{stamped}
use Rattle.sqlite.specs.State.{State, ExecutesInside}
use Rattle.sqlite.proofs.Callers.{IsPlain, command_of}
use Rattle.wk_text_rules.specs.Titles.{PageTitle}
use Rattle.wk_table_rules.specs.Rows.{RedirectColumns, StoreTables}
use Rattle.wk_table_rules.specs.Changes.{redirect_row, with_rows_of}
use Rattle.wk_sqltables.specs.StoreSchema.{store_schema, redirect_table}
use Rattle.wk_sqltables.specs.Entries.{entry, redirect_values}
use Rattle.wk_sqltables.specs.Held.{AreKeyed, Holds}
use Rattle.wk_sqltables.specs.Statements.{drop_redirect_text, add_redirect_text}
use Rattle.wk_sqltables.specs.Members.{SetsRedirect}
use Rattle.wk_sqltables.proofs.Picked.{picked, passes_all}
use Rattle.wk_sqltables.proofs.Casts.{cast_null, cast_int, equal_ints, one_test}
use Rattle.wk_sqltables.proofs.Steps.{deletes, inserts}
use Rattle.wk_sqltables.proofs.Keyed.{dropped, put}
use Rattle.wk_sqltables.proofs.Sorts.{put_in, put_in_is, others_are}
use Rattle.wk_sqltables.proofs.Frames.{redirects_only}

abbrev by_redirect : List Term
by_redirect = op2 (Compare Eq Binary) (col 1 0) (col 0 0) ∷ []

abbrev redirect_terms : List Term
redirect_terms = col 0 0 ∷ lit Null ∷ col 0 1 ∷ col 0 2 ∷ []

drop_is : command_of (understood store_schema drop_redirect_text) ≡ Delete 8 (record { lets = []; body = picked 14 by_redirect (col 1 0 ∷ []) })
unfolding understood everything
drop_is = refl

drop_plain : IsPlain (understood store_schema drop_redirect_text)
unfolding understood everything
drop_plain = (refl, refl)

add_is : command_of (understood store_schema add_redirect_text) ≡ Insert 8 (Values redirect_terms 4)
unfolding understood everything
add_is = refl

add_plain : IsPlain (understood store_schema add_redirect_text)
unfolding understood everything
add_plain = (refl, refl)

abbrev number : RedirectColumns → ℤ
number redirect = pos redirect.rd_from

abbrev left : ℕ → List RedirectColumns → List RedirectColumns
left page redirects = filter (λ r. not (eqb r.rd_from page)) redirects

module _ (old new : State) (count : ℕ) where
  pub drops_redirect : (page : ℕ) → ExecutesInside 0 drop_redirect_text (Int (pos page) ∷ []) old new (Ok count) → (tables : StoreTables) → Holds old tables
      → Holds new (record tables { redirects = left page tables.redirects })
  drops_redirect page h tables holds =
      let params = Int (pos page) ∷ [] in
      let db = old.now.trees in
      let it = deletes 8 redirect_table refl refl old new params drop_redirect_text holds.schema drop_plain count h by_redirect (col 1 0 ∷ []) drop_is in
      let gone = dropped redirect_values (λ r. r.rd_from) (λ r. refl) (passes_all by_redirect params) (λ r. eqb r.rd_from page) (λ r. one_test _ _ (equal_ints r.rd_from page)) (db 14) tables.redirects holds.tables_are.redirects it.0 it.1 in
      let is = subst (λ l. AreKeyed redirect_values l (left page tables.redirects)) (sym it.2.applies.rows) gone in
      record { inside = it.2.inside; schema = it.2.schema; tables_are = redirects_only db new.now.trees tables holds.tables_are it.2.applies.tables (left page tables.redirects) is }

  pub adds_redirect : (redirect : RedirectColumns) → ExecutesInside 0 add_redirect_text (redirect_values redirect) old new (Ok count) → (tables : StoreTables) → Holds old tables
      → Holds new (record tables { redirects = insert_by number tables.redirects redirect })
  adds_redirect redirect h tables holds =
      let db = old.now.trees in
      let values = redirect_values redirect in
      let it = inserts 8 redirect_table refl refl old new values add_redirect_text holds.schema add_plain count h redirect_terms 4 refl add_is in
      let rows : edited db (edit_of db redirect_table [] Chosen 0 (value_rows (stamped redirect_table values) 4 1 redirect_terms)) ≡ put_row (entry values) (db 14) =
      rw (cast_int (pos redirect.rd_from), cast_int redirect.rd_title.ns, cast_null) refl in
      let more = put redirect_values (λ r. r.rd_from) (λ r. refl) redirect (db 14) tables.redirects holds.tables_are.redirects in
      let is = subst (λ l. AreKeyed redirect_values l (insert_by number tables.redirects redirect)) (sym (it.applies.rows ∙ rows)) more in
      record { inside = it.inside; schema = it.schema; tables_are = redirects_only db new.now.trees tables holds.tables_are it.applies.tables (insert_by number tables.redirects redirect) is }

-- ---- the row of a page

nothing_in : (page : ℕ) (rs : List RedirectColumns) → put_in (λ r. r.rd_from) page [] rs ≡ rs
unfolding put_in
nothing_in page [] = refl
nothing_in page (r ∷ rs) = go (nat_lt page r.rd_from) (nothing_in page rs)
  where
    go : (b : Bool) → put_in (λ r. r.rd_from) page [] rs ≡ rs → cond b (r ∷ rs) (r ∷ put_in (λ r. r.rd_from) page [] rs) ≡ r ∷ rs
    go true later = refl
    go false later = ap (λ l. r ∷ l) later

one_in : (new : RedirectColumns) (rs : List RedirectColumns) → AllByRecursion (λ r. eqb r.rd_from new.rd_from ≡ false) rs → insert_by number rs new ≡ put_in (λ r. r.rd_from) new.rd_from (new ∷ []) rs
unfolding put_in
one_in new [] apart = refl
one_in new (r ∷ rs) apart = go (nat_lt new.rd_from r.rd_from) refl (one_in new rs apart.1)
  where
    go : (b : Bool) → nat_lt new.rd_from r.rd_from ≡ b → insert_by number rs new ≡ put_in (λ r. r.rd_from) new.rd_from (new ∷ []) rs
        → insert_by number (r ∷ rs) new ≡ cond b (new ∷ r ∷ rs) (r ∷ put_in (λ r. r.rd_from) new.rd_from (new ∷ []) rs)
    go true is later = let above : int_cmp (number r) (number new) ≡ Greater = grind (arith, ints, nat_tests) in rw above refl
    go false is later =
        let other = apart.0 in
        let below : int_cmp (number r) (number new) ≡ Less = grind (arith, ints, nat_tests) in
        rw below (ap (λ l. r ∷ l) later)

pub without_redirect : (old new : State) (page : ℕ) → ((tables : StoreTables) → Holds old tables → Holds new (record tables { redirects = left page tables.redirects })) → SetsRedirect old new page None
without_redirect old new page drops tables holds =
    let is : with_rows_of (λ r. r.rd_from) page tables.redirects [] ≡ left page tables.redirects = put_in_is (λ r. r.rd_from) page [] (left page tables.redirects) ∙ nothing_in page (left page tables.redirects) in
    subst (λ l. Holds new (record tables { redirects = l })) (sym is) (drops tables holds)

pub with_redirect : (old mid new : State) (page : ℕ) (title : PageTitle) → ((tables : StoreTables) → Holds old tables → Holds mid (record tables { redirects = left page tables.redirects }))
    → ((tables : StoreTables) → Holds mid tables → Holds new (record tables { redirects = insert_by number tables.redirects (redirect_row page title) })) → SetsRedirect old new page (Some title)
with_redirect old mid new page title drops adds tables holds =
    let new_row = redirect_row page title in
    let is : with_rows_of (λ r. r.rd_from) page tables.redirects (new_row ∷ []) ≡ insert_by number (left page tables.redirects) new_row =
    put_in_is (λ r. r.rd_from) page (new_row ∷ []) (left page tables.redirects) ∙ sym (one_in new_row (left page tables.redirects) (others_are (λ r. r.rd_from) page tables.redirects)) in
    subst (λ l. Holds new (record tables { redirects = l })) (sym is) (adds (record tables { redirects = left page tables.redirects }) (drops tables holds))
