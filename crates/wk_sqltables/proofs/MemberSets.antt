-- The statements on the table categorylinks.
use Rattle.std.proofs.Common.{◌≡◌, ◌+◌, ◌<◌, ◌≤◌, ℕ, pos, eqb, map, take, get_or, Less, true, not, List, [], ◌∷◌, ◌++◌, filter, drop, length, Ok, refl, sym, ap, subst, ◌∙◌}
use Rattle.std.specs.List.{AllByRecursion}
use Rattle.std.specs.Cmp.{IsTotalOrder}
use Rattle.std.proofs.lemmas.Cmp.{nat_cmp_total, on_total, then_total}
use Rattle.std.proofs.lemmas.List.{take_all}
use Rattle.sqlite_value.specs.declared.keys.Collation.TheVariants.{Binary}
use Rattle.sqlite_value.specs.declared.value.Value.TheVariants.{Int}
use Rattle.sqlite_value.specs.Order.{Row, column}
use Rattle.sqlite_trees.specs.Tree.{Trees, IsAscending, put_row}
use Rattle.sqlite_sql.specs.declared.ops.BinaryOp.TheVariants.{Compare}
use Rattle.sqlite_sql.specs.declared.ops.CompareOp.TheVariants.{Eq}
use Rattle.sqlite_sql.specs.Ops.{binary, is_true}
use Rattle.sqlite_sql.specs.Term.{col}
use Rattle.sqlite_schema.specs.declared.command.Source.TheVariants.{Values}
use Rattle.sqlite_rules.specs.Edit.{edited, edit_of, next_rowid}
use Rattle.sqlite_rules.specs.declared.error.Rowids.TheVariants.{Chosen}
use Rattle.sqlite.specs.Command.TheVariants.{Delete, Insert}
use Rattle.sqlite_tied.specs.Compute.{everything}
use Rattle.sqlite.specs.Effect.{value_rows}
use Rattle.sqlite.specs.Listing.{understood}
use Rattle.sqlite.specs.Rows.{stamped}
use Rattle.sqlite.specs.State.{State, ExecutesInside}
use Rattle.sqlite.proofs.Callers.{IsPlain, command_of}
use Rattle.sqlite_keyed.proofs.ListLemmas.{all-map, map-map, ascending-map, ascending_weaker}
use Rattle.wk_text_rules.specs.Titles.{PageTitle, title_cmp}
use Rattle.wk_page_rules.specs.PageRows.{Member}
use Rattle.wk_table_rules.specs.Rows.{CategoryColumns, category_title}
use Rattle.wk_table_rules.specs.Changes.{category_row, with_rows_of}
use Rattle.wk_table_rows.specs.Members.{member_of}
use Rattle.wk_sqltables.specs.StoreSchema.{store_schema, categorylinks_table}
use Rattle.wk_sqltables.specs.Entries.{member_values}
use Rattle.wk_sqltables.specs.Held.{AreStored, IsInStore, RewritesAll, member_cmp}
use Rattle.wk_sqltables.specs.Statements.{drop_members_text, add_member_text}
use Rattle.wk_sqltables.specs.Members.{SetsMembers, category_cmp}
use Rattle.wk_sqltables.proofs.Picked.{picked, passes_all}
use Rattle.wk_sqltables.proofs.Casts.{cast_null, cast_int, equal_ints, one_test}
use Rattle.wk_sqltables.proofs.Steps.{deletes, inserts}
use Rattle.wk_sqltables.proofs.Stored.{pushed, dropped}
use Rattle.wk_sqltables.proofs.Loops.{adds_first, adds_empty, adds_more}
use Rattle.wk_sqltables.proofs.Sorts.{replaced}
use Rattle.wk_sqltables.proofs.Frames.{categorylinks_only}
use Rattle.wk_sqltables.proofs.LinkSets.{by_from, four_terms, lower_page, same_page, title_total}

drop_is : command_of (understood store_schema drop_members_text) ≡ Delete 5 (record { lets = []; body = picked 9 by_from (col 1 0 ∷ []) })
unfolding understood everything
drop_is = refl

drop_plain : IsPlain (understood store_schema drop_members_text)
unfolding understood everything
drop_plain = (refl, refl)

add_is : command_of (understood store_schema add_member_text) ≡ Insert 5 (Values four_terms 5)
unfolding understood everything
add_is = refl

add_plain : IsPlain (understood store_schema add_member_text)
unfolding understood everything
add_plain = (refl, refl)

put_is : (db : Trees) (member : CategoryColumns)
    → edited db (edit_of db categorylinks_table [] Chosen 0 (value_rows (stamped categorylinks_table (member_values member)) 5 1 four_terms)) ≡ put_row (Int (next_rowid (db 9)) ∷ member_values member) (db 9)
put_is db member = rw (cast_null, cast_int (pos member.cl_from)) refl

at_from : (r : Row) (member : CategoryColumns) → drop 1 r ≡ member_values member → column r 1 ≡ Int (pos member.cl_from)
at_from [] member h = absurd (cc)
at_from (v ∷ r) member h = ap (λ l. column l 0) h

passes_is : (page : ℕ) (r : Row) (member : CategoryColumns) → drop 1 r ≡ member_values member → passes_all by_from (Int (pos page) ∷ []) r ≡ eqb member.cl_from page
passes_is page r member h = one_test _ _ (ap (λ v. is_true (binary (Compare Eq Binary) v (Int (pos page)))) (at_from r member h) ∙ equal_ints member.cl_from page)

module _ (old new : State) (count : ℕ) where
  pub drops_members : (page : ℕ) → ExecutesInside 0 drop_members_text (Int (pos page) ∷ []) old new (Ok count) → RewritesAll 9 member_values (filter (λ member. not (eqb member.cl_from page))) old new
  drops_members page h items in_store are =
      let params = Int (pos page) ∷ [] in
      let it = deletes 5 categorylinks_table refl refl old new params drop_members_text in_store.schema drop_plain count h by_from (col 1 0 ∷ []) drop_is in
      let left = dropped member_values (passes_all by_from params) (λ member. eqb member.cl_from page) (passes_is page) (old.now.trees 9) items are it.0 it.1 in
      record {
        in_store = record { inside = it.2.inside; schema = it.2.schema };
        items_are = subst (λ l. AreStored member_values l (filter (λ member. not (eqb member.cl_from page)) items)) (sym it.2.applies.rows) left;
        others = it.2.applies.tables;
      }

  pub adds_member : (member : CategoryColumns) → ExecutesInside 0 add_member_text (member_values member) old new (Ok count) → RewritesAll 9 member_values (λ items. items ++ member ∷ []) old new
  adds_member member h items in_store are =
      let db = old.now.trees in
      let it = inserts 5 categorylinks_table refl refl old new (member_values member) add_member_text in_store.schema add_plain count h four_terms 5 refl add_is in
      record {
        in_store = record { inside = it.inside; schema = it.schema };
        items_are = subst (λ l. AreStored member_values l (items ++ member ∷ [])) (sym (it.applies.rows ∙ put_is db member)) (pushed member_values member (db 9) items are);
        others = it.applies.tables;
      }

-- ---- the members of a page

member_total : IsTotalOrder member_cmp
member_total = then_total (on_total (λ (m : CategoryColumns). m.cl_from) nat_cmp_total) (on_total (λ (m : CategoryColumns). category_title m.cl_to) title_total)

members_rise : (page : ℕ) (members : List Member) → IsAscending (λ a b. category_cmp a b ≡ Less) members → IsAscending (λ a b. member_cmp a b ≡ Less) (map (category_row page) members)
members_rise page members up =
    ascending-map (λ a b. member_cmp a b ≡ Less) (category_row page) members
    (ascending_weaker (λ a b. category_cmp a b ≡ Less) (λ a b. member_cmp (category_row page a) (category_row page b) ≡ Less) (λ a b h. same_page page (category_cmp a b) ∙ h) members up)

pub sets_members : (old mid new : State) (page : ℕ) (members : List Member)
    → RewritesAll 9 member_values (filter (λ member. not (eqb member.cl_from page))) old mid → RewritesAll 9 member_values (λ items. items ++ map (category_row page) members) mid new
    → SetsMembers old new page members
sets_members old mid new page members drops adds up tables holds =
    let in_store : IsInStore old = record { inside = holds.inside; schema = holds.schema } in
    let rows = map (category_row page) members in
    let of_page : AllByRecursion (λ m. m.cl_from ≡ page) rows = all-map (λ m. m.cl_from ≡ page) (category_row page) (λ member. refl) members in
    let it = replaced member_values member_cmp member_total (λ m. m.cl_from) (λ a b h. lower_page a.cl_from b.cl_from (title_cmp (category_title a.cl_to) (category_title b.cl_to)) h) 9 old mid new page rows (members_rise page members up) of_page drops adds in_store
    tables.categorylinks holds.tables_are.categorylinks in
    record {
      inside = it.in_store.inside;
      schema = it.in_store.schema;
      tables_are = categorylinks_only old.now.trees new.now.trees tables holds.tables_are it.others (with_rows_of (λ m. m.cl_from) page tables.categorylinks rows) it.items_are;
    }

-- ---- a loop over members, which the code has as triples

abbrev Triple : Type 0
Triple = PageTitle × List ℕ × List ℕ

abbrev row_of : ℕ → Triple → CategoryColumns
row_of page triple = category_row page (member_of triple)

abbrev AddsMembers : ℕ → List Triple → State → State → Type 0
AddsMembers page triples old new = RewritesAll 9 member_values (λ rows. rows ++ map (category_row page) (map member_of triples)) old new

two_maps : (page : ℕ) (triples : List Triple) → map (row_of page) triples ≡ map (category_row page) (map member_of triples)
two_maps page triples = sym (map-map (category_row page) member_of triples)

to_both : (page : ℕ) (triples : List Triple) (old new : State) → RewritesAll 9 member_values (λ rows. rows ++ map (row_of page) triples) old new → AddsMembers page triples old new
to_both page triples old new h = subst (λ l. RewritesAll 9 member_values (λ rows. rows ++ l) old new) (two_maps page triples) h

from_both : (page : ℕ) (triples : List Triple) (old new : State) → AddsMembers page triples old new → RewritesAll 9 member_values (λ rows. rows ++ map (row_of page) triples) old new
from_both page triples old new h = subst (λ l. RewritesAll 9 member_values (λ rows. rows ++ l) old new) (sym (two_maps page triples)) h

pub members_first : (s : State) (page : ℕ) (triples : List Triple) → AddsMembers page (take 0 triples) s s
members_first s page triples = to_both page (take 0 triples) s s (adds_first 9 member_values (row_of page) s triples)

pub members_empty : (s : State) (page : ℕ) (triples : List Triple) → eqb (length triples) 0 ≡ true → AddsMembers page triples s s
members_empty s page triples none = to_both page triples s s (adds_empty 9 member_values (row_of page) s triples none)

pub members_more : (old mid new : State) (page : ℕ) (triples : List Triple) (i : ℕ) (triple : Triple) → i < length triples → triple ≡ get_or triples i triple → AddsMembers page (take i triples) old mid
    → RewritesAll 9 member_values (λ rows. rows ++ row_of page triple ∷ []) mid new → AddsMembers page (take (i + 1) triples) old new
members_more old mid new page triples i triple low is before adds =
    to_both page (take (i + 1) triples) old new (adds_more 9 member_values (row_of page) old mid new triples i triple low is (from_both page (take i triples) old mid before) adds)

pub members_all : (old new : State) (page : ℕ) (triples : List Triple) (i : ℕ) → length triples ≤ i → AddsMembers page (take i triples) old new → AddsMembers page triples old new
members_all old new page triples i high h = subst (λ l. AddsMembers page l old new) (take_all i triples high) h
