-- The statements on the link tables.
use Rattle.std.proofs.Common.{◌≡◌, ℕ, ℤ, pos, ◌/◌, ◌^◌, nat_le, eqb, ltb, arith, map, Ordering, Less, nat_cmp, true, false, not, List, [], ◌∷◌, ◌++◌, filter, drop, length, slice_get, Some, Ok, refl, sym, ap, subst, ◌∙◌}
use Rattle.std.specs.List.{AllByRecursion}
use Rattle.std.specs.Cmp.{IsTotalOrder}
use Rattle.std.specs.Ordering.{ordering_then}
use Rattle.std.proofs.lemmas.Bool.Decides.{nat_tests}
use Rattle.std.proofs.lemmas.Cmp.{int_cmp_total, nat_cmp_total, on_total, tied_itself, then_total}
use Rattle.std.specs.Cmp.Lexicographic.{nat_list_cmp_total}
use Rattle.sqlite_value.specs.declared.keys.Collation.TheVariants.{Binary}
use Rattle.sqlite_value.specs.declared.value.Value.TheVariants.{Null, Int}
use Rattle.sqlite_value.specs.Order.{Row, column}
use Rattle.sqlite_trees.specs.Tree.{Trees, IsAscending, put_row}
use Rattle.sqlite_sql.specs.declared.ops.BinaryOp.TheVariants.{Compare}
use Rattle.sqlite_sql.specs.declared.ops.CompareOp.TheVariants.{Eq}
use Rattle.sqlite_sql.specs.Ops.{binary, is_true}
use Rattle.sqlite_sql.specs.Term.{Term, lit, col, op2}
use Rattle.sqlite_schema.specs.declared.command.Source.TheVariants.{Values}
use Rattle.sqlite_rules.specs.Edit.{edited, edit_of, next_rowid}
use Rattle.sqlite_rules.specs.declared.error.Rowids.TheVariants.{Chosen}
use Rattle.sqlite.specs.Command.TheVariants.{Delete, Insert}
use Rattle.sqlite_tied.specs.Compute.{everything}
use Rattle.sqlite.specs.Effect.{value_rows}
use Rattle.sqlite.specs.Listing.{understood}
use Rattle.sqlite.specs.Rows.{stamped}
use Rattle.sqlite.specs.State.{State, ExecutesInside}
use Rattle.sqlite.proofs.Callers.{IsPlain, command_of}
use Rattle.sqlite_keyed.proofs.ListLemmas.{all-map, ascending-map, ascending_weaker}
use Rattle.wk_text_rules.specs.Titles.{PageTitle, title_cmp}
use Rattle.wk_table_rules.specs.Rows.{LinkColumns, StoreTables}
use Rattle.wk_table_rules.specs.Changes.{link_row, with_rows_of}
use Rattle.wk_sqltables.specs.declared.links.LinkTable.{LinkTable}
use Rattle.wk_sqltables.specs.declared.links.LinkTable.TheVariants.{Pagelinks, Templatelinks, Existlinks}
use Rattle.wk_sqltables.specs.StoreSchema.{store_schema}
use Rattle.wk_sqltables.specs.Entries.{link_values}
use Rattle.wk_sqltables.specs.Held.{AreListed, AreStored, HoldTables, IsInStore, KeepsBut, RewritesAll, link_cmp}
use Rattle.wk_sqltables.specs.LinkTables.{table_of, tree_of, place_of, links_of, with_links, SetsLinks, drop_links_text, add_link_text}
use Rattle.wk_sqltables.proofs.Picked.{picked, passes_all}
use Rattle.wk_sqltables.proofs.Casts.{cast_null, cast_int, equal_ints, one_test}
use Rattle.wk_sqltables.proofs.Steps.{deletes, inserts}
use Rattle.wk_sqltables.proofs.Stored.{pushed, dropped}
use Rattle.wk_sqltables.proofs.Sorts.{replaced}
use Rattle.wk_sqltables.proofs.Frames.{pagelinks_only, templatelinks_only, existlinks_only}

abbrev pub by_from : List Term
by_from = op2 (Compare Eq Binary) (col 1 1) (col 0 0) ∷ []

abbrev pub four_terms : List Term
four_terms = lit Null ∷ col 0 0 ∷ col 0 1 ∷ col 0 2 ∷ col 0 3 ∷ []

here : (t : LinkTable) → slice_get store_schema.tables (place_of t) ≡ Some (table_of t)
here Pagelinks = refl
here Templatelinks = refl
here Existlinks = refl

low : (t : LinkTable) → nat_le (2 ^ 31) (tree_of t) ≡ false
low Pagelinks = refl
low Templatelinks = refl
low Existlinks = refl

uncounted : (t : LinkTable) → (table_of t).is_counted ≡ false
uncounted Pagelinks = refl
uncounted Templatelinks = refl
uncounted Existlinks = refl

drop_is : (t : LinkTable) → command_of (understood store_schema (drop_links_text t)) ≡ Delete (place_of t) (record { lets = []; body = picked (tree_of t) by_from (col 1 0 ∷ []) })
unfolding understood everything
drop_is Pagelinks = refl
drop_is Templatelinks = refl
drop_is Existlinks = refl

drop_plain : (t : LinkTable) → IsPlain (understood store_schema (drop_links_text t))
unfolding understood everything
drop_plain Pagelinks = (refl, refl)
drop_plain Templatelinks = (refl, refl)
drop_plain Existlinks = (refl, refl)

add_is : (t : LinkTable) → command_of (understood store_schema (add_link_text t)) ≡ Insert (place_of t) (Values four_terms 5)
unfolding understood everything
add_is Pagelinks = refl
add_is Templatelinks = refl
add_is Existlinks = refl

add_plain : (t : LinkTable) → IsPlain (understood store_schema (add_link_text t))
unfolding understood everything
add_plain Pagelinks = (refl, refl)
add_plain Templatelinks = (refl, refl)
add_plain Existlinks = (refl, refl)

put_is : (t : LinkTable) (db : Trees) (link : LinkColumns)
    → edited db (edit_of db (table_of t) [] Chosen 0 (value_rows (stamped (table_of t) (link_values link)) 5 (length four_terms / 5) four_terms)) ≡ put_row (Int (next_rowid (db (tree_of t))) ∷ link_values link) (db (tree_of t))
put_is Pagelinks db link = rw (cast_null, cast_int (pos link.from), cast_int link.from_namespace, cast_int link.target.ns) refl
put_is Templatelinks db link = rw (cast_null, cast_int (pos link.from), cast_int link.from_namespace, cast_int link.target.ns) refl
put_is Existlinks db link = rw (cast_null, cast_int (pos link.from), cast_int link.from_namespace, cast_int link.target.ns) refl

pub link_held : (t : LinkTable) (trees : Trees) (tables : StoreTables) → HoldTables trees tables → AreListed link_values link_cmp (trees (tree_of t)) (links_of t tables)
link_held Pagelinks trees tables was = was.pagelinks
link_held Templatelinks trees tables was = was.templatelinks
link_held Existlinks trees tables was = was.existlinks

pub links_only : (t : LinkTable) (db next : Trees) (tables : StoreTables) → HoldTables db tables → KeepsBut (tree_of t) db next → (links : List LinkColumns) → AreListed link_values link_cmp (next (tree_of t)) links
    → HoldTables next (with_links t tables links)
links_only Pagelinks = pagelinks_only
links_only Templatelinks = templatelinks_only
links_only Existlinks = existlinks_only

at_from : (r : Row) (link : LinkColumns) → drop 1 r ≡ link_values link → column r 1 ≡ Int (pos link.from)
at_from [] link h = absurd (cc)
at_from (v ∷ r) link h = ap (λ l. column l 0) h

passes_is : (page : ℕ) (r : Row) (link : LinkColumns) → drop 1 r ≡ link_values link → passes_all by_from (Int (pos page) ∷ []) r ≡ eqb link.from page
passes_is page r link h = one_test _ _ (ap (λ v. is_true (binary (Compare Eq Binary) v (Int (pos page)))) (at_from r link h) ∙ equal_ints link.from page)

module _ (t : LinkTable) (old new : State) (count : ℕ) where
  pub drops_links : (page : ℕ) → ExecutesInside 0 (drop_links_text t) (Int (pos page) ∷ []) old new (Ok count) → RewritesAll (tree_of t) link_values (filter (λ link. not (eqb link.from page))) old new
  drops_links page h items in_store are =
      let params = Int (pos page) ∷ [] in
      let rows = old.now.trees (tree_of t) in
      let it = deletes (place_of t) (table_of t) (here t) (low t) old new params (drop_links_text t) in_store.schema (drop_plain t) count h by_from (col 1 0 ∷ []) (drop_is t) in
      let left = dropped link_values (passes_all by_from params) (λ link. eqb link.from page) (passes_is page) rows items are it.0 it.1 in
      record {
        in_store = record { inside = it.2.inside; schema = it.2.schema };
        items_are = subst (λ l. AreStored link_values l (filter (λ link. not (eqb link.from page)) items)) (sym it.2.applies.rows) left;
        others = it.2.applies.tables;
      }

  pub adds_link : (link : LinkColumns) → ExecutesInside 0 (add_link_text t) (link_values link) old new (Ok count) → RewritesAll (tree_of t) link_values (λ items. items ++ link ∷ []) old new
  adds_link link h items in_store are =
      let db = old.now.trees in
      let it = inserts (place_of t) (table_of t) (here t) (low t) old new (link_values link) (add_link_text t) in_store.schema (add_plain t) count h four_terms 5 (uncounted t) (add_is t) in
      record {
        in_store = record { inside = it.inside; schema = it.schema };
        items_are = subst (λ l. AreStored link_values l (items ++ link ∷ [])) (sym (it.applies.rows ∙ put_is t db link)) (pushed link_values link (db (tree_of t)) items are);
        others = it.applies.tables;
      }

-- ---- the rows of a page

pub title_total : IsTotalOrder title_cmp
title_total = then_total (on_total (λ (t : PageTitle). t.ns) int_cmp_total) (on_total (λ (t : PageTitle). t.key) nat_list_cmp_total)

link_total : IsTotalOrder link_cmp
link_total = then_total (on_total (λ (l : LinkColumns). l.from) nat_cmp_total) (on_total (λ (l : LinkColumns). l.target) title_total)

pub lower_page : (a b : ℕ) (o : Ordering) → ltb a b ≡ true → ordering_then (nat_cmp a b) o ≡ Less
lower_page a b o h = let less : nat_cmp a b ≡ Less = grind (arith, nat_tests) in rw less refl

pub same_page : (a : ℕ) (o : Ordering) → ordering_then (nat_cmp a a) o ≡ o
same_page a o = rw (tied_itself nat_cmp_total a) refl

links_rise : (page : ℕ) (namespace : ℤ) (titles : List PageTitle) → IsAscending (λ a b. title_cmp a b ≡ Less) titles → IsAscending (λ a b. link_cmp a b ≡ Less) (map (link_row page namespace) titles)
links_rise page namespace titles up =
    ascending-map (λ a b. link_cmp a b ≡ Less) (link_row page namespace) titles
    (ascending_weaker (λ a b. title_cmp a b ≡ Less) (λ a b. link_cmp (link_row page namespace a) (link_row page namespace b) ≡ Less) (λ a b h. same_page page (title_cmp a b) ∙ h) titles up)

-- the rows of a page in the table are these, and the rest of the tables stays
pub sets_links : (t : LinkTable) (old mid new : State) (page : ℕ) (namespace : ℤ) (titles : List PageTitle)
    → RewritesAll (tree_of t) link_values (filter (λ link. not (eqb link.from page))) old mid → RewritesAll (tree_of t) link_values (λ links. links ++ map (link_row page namespace) titles) mid new
    → SetsLinks t old new page namespace titles
sets_links t old mid new page namespace titles drops adds up tables holds =
    let in_store : IsInStore old = record { inside = holds.inside; schema = holds.schema } in
    let rows = map (link_row page namespace) titles in
    let of_page : AllByRecursion (λ l. l.from ≡ page) rows = all-map (λ l. l.from ≡ page) (link_row page namespace) (λ title. refl) titles in
    let it = replaced link_values link_cmp link_total (λ l. l.from) (λ a b h. lower_page a.from b.from (title_cmp a.target b.target) h) (tree_of t) old mid new page rows (links_rise page namespace titles up) of_page drops adds in_store
    (links_of t tables) (link_held t old.now.trees tables holds.tables_are) in
    record {
      inside = it.in_store.inside;
      schema = it.in_store.schema;
      tables_are = links_only t old.now.trees new.now.trees tables holds.tables_are it.others (with_rows_of (λ l. l.from) page (links_of t tables) rows) it.items_are;
    }
