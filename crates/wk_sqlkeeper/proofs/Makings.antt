-- The statements that make the tables of a new store.
use Rattle.std.proofs.Common.{◌≡◌, ◌≢◌, inl, inr, ℕ, eqb, map, drop, true≢false, arith, Ordering, pos, List, [], ◌∷◌, ◌++◌, codes, true, false, None, Ok, Err, Result, OnOk, is_ok, IsTrue, refl, sym, ap, subst, ◌∙◌}
use Rattle.std.specs.Fmt.{decimal, digits}
use Rattle.std.specs.List.{AllByRecursion}
use Rattle.std.proofs.lemmas.Bool.Decides.{nat_tests}
use Rattle.sqlite_value.specs.declared.value.Value.TheVariants.{Null, Int, Text}
use Rattle.sqlite_value.specs.Order.{Row}
use Rattle.sqlite_trees.specs.Tree.{Trees, IsTable, put_row, rowid}
use Rattle.sqlite_trees.specs.View.{is_int}
use Rattle.sqlite_sql.specs.Term.{Term, lit}
use Rattle.sqlite_schema.specs.declared.schema.Table.{Table}
use Rattle.sqlite_schema.specs.declared.schema.Schema.{Schema}
use Rattle.sqlite_schema.specs.declared.command.Source.TheVariants.{Values}
use Rattle.sqlite_resolve.specs.Compile.{table_defined_by}
use Rattle.sqlite_catalog.specs.Change.{next_tree, created, KeepsRows}
use Rattle.sqlite_rules.specs.Edit.{edited, edit_of, next_rowid}
use Rattle.sqlite_rules.specs.declared.error.Rowids.TheVariants.{Chosen}
use Rattle.sqlite.specs.Command.TheVariants.{CreateTable, Insert}
use Rattle.sqlite_tied.specs.Compute.{everything}
use Rattle.sqlite.specs.Effect.{Database, value_rows}
use Rattle.sqlite.specs.Rows.{stamped}
use Rattle.sqlite.specs.Does.{Tally, Does, lacks_sequence}
use Rattle.sqlite_trees.specs.declared.store.Store.{Ghosts}
use Rattle.sqlite.specs.Held.{Held, state}
use Rattle.sqlite.specs.Listing.{understood}
use Rattle.sqlite.specs.declared.error.Error.{Error}
use Rattle.sqlite.specs.State.{State, mode_of, ExecutesIn, ExecutesInside, KeepsCommit}
use Rattle.sqlite.proofs.Callers.{IsPlain, command_of, statement_of, runs_as}
use Rattle.wk_sqltables.specs.StoreSchema.{store_schema, no_schema, page_table, revision_table, pagelinks_table, templatelinks_table, existlinks_table, categorylinks_table, job_table, site_table, redirect_table}
use Rattle.wk_sqltables.proofs.Inside.{inside_keeps}
use Rattle.wk_sqlkeeper.specs.Older.{IsMade}
use Rattle.wk_sqlkeeper.specs.Making.{HasMade, Ran, schema_1, schema_2, schema_3, schema_4, schema_5, schema_6, schema_7, schema_8, schema_9, page_made, revision_made, pagelinks_made, templatelinks_made, existlinks_made, categorylinks_made, job_made, site_made, redirect_made, version_made}
use Rattle.wk_table_rules.specs.Rows.{no_tables}
use Rattle.wk_sqltables.specs.Entries.{page_values, revision_values, link_values, member_values, redirect_values, job_values}
use Rattle.wk_sqltables.specs.Held.{AreKeyed, AreListed, Holds, link_cmp, member_cmp}
use Rattle.wk_sqltables.proofs.Casts.{cast_null}
use Rattle.wk_sqltables.proofs.Steps.{went, same_value, inserts}

-- a statement that makes this table where the schema is this
pub record Makes (text : List ℕ) (before : Schema) (table : Table) : Type 0 where
  pub defined : table_defined_by text ≡ Ok (record table { tree = 0 })
  pub is : command_of (understood before text) ≡ CreateTable
  pub plain : IsPlain (understood before text)
  pub whole : statement_of text (understood before text) ≡ text
  pub uncounted : lacks_sequence (created before table) ≡ false

all_and : {X : Type 0} (P : X → Type 0) (xs : List X) (x : X) → AllByRecursion P xs → P x → AllByRecursion P (xs ++ x ∷ [])
all_and P [] x all one = (one, tt)
all_and P (y ∷ ys) x all one = (all.0, all_and P ys x all.1 one)

still_empty : (tables : List Table) (db next : Trees) → KeepsRows tables db next → AllByRecursion (λ table. db table.tree ≡ []) tables → AllByRecursion (λ table. next table.tree ≡ []) tables
still_empty [] db next keeps empty = tt
still_empty (t ∷ tables) db next keeps empty = (keeps.0 ∙ empty.0, still_empty tables db next keeps.1 empty.1)

-- what it makes
pub record MakesOne (before : Schema) (table : Table) (old new : State) : Type 0 where
  pub inside : IsTrue new.in_transaction
  pub schema_is : new.now.schema ≡ created before table
  pub empty : new.now.trees (next_tree before) ≡ []
  pub others : KeepsRows before.tables old.now.trees new.now.trees

pub made_one : (text : List ℕ) (before : Schema) (table : Table) → Makes text before table → (old new : State) (count : ℕ) → ExecutesInside 0 text [] old new (Ok count) → old.now.schema ≡ before → MakesOne before table old new
made_one text before table m old new count h was =
    let w = runs_as text [] old new before was CreateTable m.is m.plain count h.0 in
    let at = statement_of text (understood before text) in
    let does = subst (λ s. Does old.step_limit (mode_of old) [] (record old.now { schema = s }) at None CreateTable (Ok (w.tally, new.now))) was w.changed in
    let done = went (rw m.whole at does) in
    let made = went done.1 in
    let now : new.now ≡ done.0 = ap (λ (p : Tally × Database). p.1) (same_value done.2) in
    let same : made.1.table ≡ record table { tree = 0 } = same_value (sym made.1.defined ∙ m.defined) in
    let schema : made.0.schema ≡ created before table = made.1.is ∙ ap (created before) same in
    let all : done.0 ≡ made.0 = same_value (rw (schema, m.uncounted) at made.2) in
    let ended : new.now ≡ made.0 = now ∙ all in
    record {
      inside = rw h.1.mode refl;
      schema_is = ap (λ (d : Database). d.schema) ended ∙ schema;
      empty = ap (λ (d : Database). d.trees (next_tree before)) ended ∙ made.1.empty;
      others = subst (λ (d : Database). KeepsRows before.tables old.now.trees d.trees) (sym ended) made.1.others;
    }

pub makes_one : (text : List ℕ) (before : Schema) (table : Table) → Makes text before table → (old new : State) (count : ℕ) → ExecutesInside 0 text [] old new (Ok count) → HasMade before old → HasMade (created before table) new
makes_one text before table m old new count h was =
    let one = made_one text before table m old new count h was.schema_is in
    record {
      inside = one.inside;
      schema_is = one.schema_is;
      empty = all_and (λ t. new.now.trees t.tree ≡ []) before.tables (record table { tree = next_tree before }) (still_empty before.tables old.now.trees new.now.trees one.others was.empty) one.empty;
    }

-- where the schema has the name already it is no statement
pub not_made : (text : List ℕ) (before : Schema) → is_ok (understood before text) ≡ false → (old new : State) (count : ℕ) → ExecutesInside 0 text [] old new (Ok count) → old.now.schema ≡ before → ⊥
unfolding ExecutesIn
not_made text before none old new count h was =
    let known : understood before text ≡ Ok h.0.0 = ap (λ s. understood s text) (sym was) ∙ h.0.1.is in
    true≢false (sym (ap is_ok known) ∙ none)

pub makes_page : Makes page_made no_schema page_table
unfolding understood everything
makes_page = record { defined = refl; is = refl; plain = (refl, refl); whole = refl; uncounted = refl }

pub page_in_older : is_ok (understood schema_8 page_made) ≡ false
unfolding understood everything
page_in_older = refl

pub page_in_store : is_ok (understood store_schema page_made) ≡ false
unfolding understood everything
page_in_store = refl

pub redirect_in_store : is_ok (understood store_schema redirect_made) ≡ false
unfolding understood everything
redirect_in_store = refl

pub makes_revision : Makes revision_made schema_1 revision_table
unfolding understood everything
makes_revision = record { defined = refl; is = refl; plain = (refl, refl); whole = refl; uncounted = refl }

pub makes_pagelinks : Makes pagelinks_made schema_2 pagelinks_table
unfolding understood everything
makes_pagelinks = record { defined = refl; is = refl; plain = (refl, refl); whole = refl; uncounted = refl }

pub makes_templatelinks : Makes templatelinks_made schema_3 templatelinks_table
unfolding understood everything
makes_templatelinks = record { defined = refl; is = refl; plain = (refl, refl); whole = refl; uncounted = refl }

pub makes_existlinks : Makes existlinks_made schema_4 existlinks_table
unfolding understood everything
makes_existlinks = record { defined = refl; is = refl; plain = (refl, refl); whole = refl; uncounted = refl }

pub makes_categorylinks : Makes categorylinks_made schema_5 categorylinks_table
unfolding understood everything
makes_categorylinks = record { defined = refl; is = refl; plain = (refl, refl); whole = refl; uncounted = refl }

pub makes_job : Makes job_made schema_6 job_table
unfolding understood everything
makes_job = record { defined = refl; is = refl; plain = (refl, refl); whole = refl; uncounted = refl }

pub makes_site : Makes site_made schema_7 site_table
unfolding understood everything
makes_site = record { defined = refl; is = refl; plain = (refl, refl); whole = refl; uncounted = refl }

pub makes_redirect : Makes redirect_made schema_8 redirect_table
unfolding understood everything
makes_redirect = record { defined = refl; is = refl; plain = (refl, refl); whole = refl; uncounted = refl }

pub all_made : schema_9 ≡ store_schema
all_made = refl

-- ---- the version

abbrev version_terms : List Term
version_terms = lit Null ∷ lit (Text (codes "version")) ∷ lit (Text (codes "2")) ∷ []

insert_is : command_of (understood store_schema version_made) ≡ Insert 7 (Values version_terms 3)
unfolding understood everything
insert_is = refl

insert_plain : IsPlain (understood store_schema version_made)
unfolding understood everything
insert_plain = (refl, refl)

far : (a b : ℕ) → eqb a b ≡ false → a ≢ b
far a b h e = let hit : eqb a b ≡ true = grind (arith, nat_tests) in true≢false (sym hit ∙ h)

pub none_keyed : {X : Type 0} (values : X → Row) (rows : List Row) → rows ≡ [] → AreKeyed values rows []
none_keyed values rows none = record { rows_are = none; rise = subst IsTable (sym none) tt }

none_listed : {X : Type 0} (values : X → Row) (cmp : X → X → Ordering) (rows : List Row) → rows ≡ [] → AreListed values cmp rows []
none_listed values cmp rows none = record {
  stored = [];
  stored_are = record { rows_are = ap (map (drop 1)) none; rise = subst IsTable (sym none) tt; numbered = subst (AllByRecursion (λ row. is_int (rowid row) ≡ true)) (sym none) tt };
  items_are = refl;
  apart = tt;
}

two_is : codes "2" ≡ decimal 2
unfolding digits
two_is = refl

-- the tables are there and empty, and then the version is put
pub holds_none : (old new : State) (count : ℕ) → ExecutesInside 0 version_made [] old new (Ok count) → HasMade schema_9 old → Holds new no_tables
holds_none old new count h was =
    let db = old.now.trees in
    let next = new.now.trees in
    let it = inserts 7 site_table refl refl old new [] version_made was.schema_is insert_plain count h version_terms 3 refl insert_is in
    let e = was.empty in
    let others = it.applies.tables in
    let site : db 12 ≡ [] = e.1.1.1.1.1.1.1.0 in
    let put : edited db (edit_of db site_table [] Chosen 0 (value_rows (stamped site_table []) 3 1 version_terms)) ≡ put_row (Int (next_rowid (db 12)) ∷ Text (codes "version") ∷ Text (codes "2") ∷ []) (db 12) = rw cast_null refl in
    let rows : next 12 ≡ (Int (pos 1) ∷ Text (codes "version") ∷ Text (codes "2") ∷ []) ∷ [] = it.applies.rows ∙ put ∙ ap (λ l. put_row (Int (next_rowid l) ∷ Text (codes "version") ∷ Text (codes "2") ∷ []) l) site in
    record {
      inside = it.inside;
      schema = it.schema;
      tables_are = record {
        pages = none_keyed page_values (next 0) (others.0 (far 0 12 refl) ∙ e.0);
        revisions = none_keyed revision_values (next 2) (others.1.0 (far 2 12 refl) ∙ e.1.0);
        pagelinks = none_listed link_values link_cmp (next 3) (others.1.1.0 (far 3 12 refl) ∙ e.1.1.0);
        templatelinks = none_listed link_values link_cmp (next 5) (others.1.1.1.0 (far 5 12 refl) ∙ e.1.1.1.0);
        existlinks = none_listed link_values link_cmp (next 7) (others.1.1.1.1.0 (far 7 12 refl) ∙ e.1.1.1.1.0);
        categorylinks = none_listed member_values member_cmp (next 9) (others.1.1.1.1.1.0 (far 9 12 refl) ∙ e.1.1.1.1.1.0);
        jobs = none_keyed job_values (next 11) (others.1.1.1.1.1.1.0 (far 11 12 refl) ∙ e.1.1.1.1.1.1.0);
        version = record { number = pos 1; rows_are = rows ∙ ap (λ v. (Int (pos 1) ∷ Text (codes "version") ∷ Text v ∷ []) ∷ []) two_is };
        redirects = none_keyed redirect_values (next 14) (others.1.1.1.1.1.1.1.1.0 (far 14 12 refl) ∙ e.1.1.1.1.1.1.1.1.0);
      };
    }

-- ---- answers

module _ {A : Type 0} (text : List ℕ) (old new : State) where
  pub ran_makes : (before : Schema) (table : Table) → Makes text before table → (r : Result A Error) → (IsTrue old.in_transaction → Ran text old new r) → OnOk r (HasMade before old → HasMade (created before table) new)
  ran_makes before table m (Ok a) ran = λ was. let h = ran was.inside in makes_one text before table m old new h.0 h.1 was
  ran_makes before table m (Err e) ran = tt

  pub ran_never : (before : Schema) → is_ok (understood before text) ≡ false → (r : Result A Error) → Ran text old new r → OnOk r (¬ old.now.schema ≡ before)
  ran_never before none (Ok a) h = λ was. not_made text before none old new h.0 h.1 was
  ran_never before none (Err e) h = tt

  pub ran_unmade : text ≡ page_made → (r : Result A Error) → Ran text old new r → OnOk r (¬ IsMade old.now.schema)
  ran_unmade is (Ok a) h = λ was. let run = rw is at h.1 in elim was [ inl older ↦ not_made page_made schema_8 page_in_older old new h.0 run older | inr whole ↦ not_made page_made store_schema page_in_store old new h.0 run whole ]
  ran_unmade is (Err e) h = tt

  pub ran_inside : (r : Result A Error) → (IsTrue old.in_transaction → Ran text old new r) → OnOk r (IsTrue old.in_transaction → IsTrue new.in_transaction)
  ran_inside (Ok a) ran = λ inside. let h = ran inside in rw h.1.1.mode refl
  ran_inside (Err e) ran = tt

  pub ran_kept : (r : Result A Error) → Ran text old new r → KeepsCommit old new
  ran_kept (Ok a) h = inside_keeps text [] old new (Ok h.0) h.1
  ran_kept (Err e) h = inside_keeps text [] old new (Err e) h

pub ran_none : {A : Type 0} (old new : State) (r : Result A Error) → (IsTrue old.in_transaction → Ran version_made old new r) → OnOk r (HasMade schema_9 old → Holds new no_tables)
ran_none old new (Ok a) ran = λ was. let h = ran was.inside in holds_none old new h.0 h.1 was
ran_none old new (Err e) ran = tt

pub on_each : {A E P : Type 0} (r : Result A E) → P → OnOk r P
on_each (Ok a) p = p
on_each (Err e) p = tt

pub never_then : {A E Inside P Q : Type 0} (r : Result A E) → (Inside → OnOk r P) → ((Inside → P) → Q) → OnOk r Q
never_then (Ok a) p f = f p
never_then (Err e) p f = tt

-- a transaction that is begun on a database without a table
pub begins_blank : {S : Type 0} (g : Ghosts S) (old : Held S) → (state g old).now.schema ≡ no_schema → HasMade no_schema (state g (record old { in_transaction = true }))
begins_blank g old is = record { inside = refl; schema_is = is; empty = tt }
