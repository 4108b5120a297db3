-- Databases that lack the table redirect, or have all tables, where they are taken over.
use Rattle.std.proofs.Common.{◌≡◌, ◌∙◌, inl, inr, Bool, true, false, true≢false, List, [], ◌∷◌, codes, map, filter, bytes_eq, Ok, Err, Result, IfErr, OnErr, OnOk, IsTrue, refl, sym, ap, subst, ℕ, length, count_by, arith}
use Rattle.std.specs.List.{AllByRecursion, list_any}
use Rattle.std.proofs.lemmas.Bool.{cases_Bool}
use Rattle.std.proofs.lemmas.List.Sums.{length-filter}
use Rattle.std.proofs.lemmas.List.Sorted.{list_any-IsPermutation}
use Rattle.std.proofs.lemmas.Slice.Eq.{bytes_eq-Decides}
use Rattle.sqlite_value.specs.declared.value.Value.{Value}
use Rattle.sqlite_value.specs.declared.value.Value.TheVariants.{Null, Int, Real, Text, Blob}
use Rattle.sqlite_value.specs.Order.{Row, column}
use Rattle.sqlite_trees.specs.Objects.{catalog_tree}
use Rattle.sqlite_schema.specs.declared.schema.Table.{Table}
use Rattle.sqlite_schema.specs.declared.schema.Index.{Index}
use Rattle.sqlite_schema.specs.declared.schema.Schema.{Schema}
use Rattle.sqlite_resolve.specs.Compile.{index_defined_by, table_defined_by}
use Rattle.sqlite_tied.specs.Compute.{everything}
use Rattle.sqlite_sql.specs.Term.{col}
use Rattle.sqlite_rules.specs.Lists.{Has}
use Rattle.sqlite_rules.proofs.ListLemmas.{all_has, has_filtered, has_kept, some_from, some_has}
use Rattle.sqlite_rules.proofs.TableLemmas.{put_all_has}
use Rattle.sqlite_catalog.specs.Listing.{AreListed, IsDefined, IsIndexRow, IsTableRow, IsViewRow, is_index_row, is_table_row, is_view_row}
use Rattle.sqlite_catalog.proofs.LayoutLemmas.{zipped_right}
use Rattle.sqlite_trees.specs.declared.store.Store.{Ghosts}
use Rattle.sqlite.specs.Held.{Held, state}
use Rattle.sqlite.specs.declared.error.Error.{Error}
use Rattle.sqlite.specs.Effect.{Database, IsDatabase}
use Rattle.sqlite.specs.Listing.{shown, understood}
use Rattle.sqlite.specs.State.{State, FailsToQuery, IsRolledBack, IsUnchanged, KeepsCommit, Shown}
use Rattle.sqlite.specs.Steps.{FailsToCommit}
use Rattle.wk_table_rules.specs.Rows.{StoreTables}
use Rattle.wk_sqltables.specs.StoreSchema.{redirect_table}
use Rattle.wk_sqltables.specs.Entries.{page_values, revision_values, link_values, member_values, redirect_values, job_values}
use Rattle.wk_sqltables.specs.Held.{AreKeyed, AreListed as AreStoredIn, Holds, IsVersion, link_cmp, member_cmp}
use Rattle.wk_sqltables.proofs.Picked.{passes_all, shows}
use Rattle.wk_sqltables.proofs.Steps.{same_value}
use Rattle.wk_sqlkeeper.specs.Making.{Ran, objects_text, redirect_made, schema_8}
use Rattle.wk_sqlkeeper.specs.Older.{HoldOlder, HoldsOlder, IsAsBefore, IsKnown, IsMade, KeepsOlder, is_words, shows_text}
use Rattle.wk_sqlkeeper.proofs.Makings.{MakesOne, all_made, made_one, makes_redirect, none_keyed}
use Rattle.wk_sqlkeeper.proofs.Objects.{ReadsObjects, blank_objects, older_objects, store_objects, shows_objects, tests}
use Rattle.wk_sqlkeeper.proofs.Rests.{query_rests}

-- ---- the table redirect is made

pub makes_whole : (old new : State) → MakesOne schema_8 redirect_table old new → (tables : StoreTables) → HoldsOlder old tables → Holds new tables
makes_whole old new m tables holds =
    let h = holds.tables_are in
    let o = m.others in
    record {
      inside = m.inside;
      schema = m.schema_is ∙ all_made;
      tables_are = record {
        pages = subst (λ r. AreKeyed page_values r tables.pages) (sym o.0) h.pages;
        revisions = subst (λ r. AreKeyed revision_values r tables.revisions) (sym o.1.0) h.revisions;
        pagelinks = subst (λ r. AreStoredIn link_values link_cmp r tables.pagelinks) (sym o.1.1.0) h.pagelinks;
        templatelinks = subst (λ r. AreStoredIn link_values link_cmp r tables.templatelinks) (sym o.1.1.1.0) h.templatelinks;
        existlinks = subst (λ r. AreStoredIn link_values link_cmp r tables.existlinks) (sym o.1.1.1.1.0) h.existlinks;
        categorylinks = subst (λ r. AreStoredIn member_values member_cmp r tables.categorylinks) (sym o.1.1.1.1.1.0) h.categorylinks;
        jobs = subst (λ r. AreKeyed job_values r tables.jobs) (sym o.1.1.1.1.1.1.0) h.jobs;
        version = subst (λ r. IsVersion r tables.version) (sym o.1.1.1.1.1.1.1.0) h.version;
        redirects = subst (AreKeyed redirect_values (new.now.trees 14)) (sym h.none) (none_keyed redirect_values (new.now.trees 14) m.empty);
      };
    }

pub ran_whole : {A : Type 0} (old new : State) (r : Result A Error) → (IsTrue old.in_transaction → Ran redirect_made old new r) → OnOk r ((tables : StoreTables) → HoldsOlder old tables → Holds new tables)
ran_whole old new (Ok a) ran = λ tables holds. let h = ran holds.inside in makes_whole old new (made_one redirect_made schema_8 redirect_table makes_redirect old new h.0 h.1 holds.schema) tables holds
ran_whole old new (Err e) ran = tt

pub begins_older : {S : Type 0} (g : Ghosts S) (old asked : Held S) (tables : StoreTables) → IsUnchanged (state g old) (state g asked) → KeepsOlder (state g old) tables → HoldsOlder (state g (record asked { in_transaction = true })) tables
begins_older g old asked tables same keeps =
    let now = same.0.now_is in
    record {
      inside = refl;
      schema = ap (λ (d : Database). d.schema) now ∙ keeps.schema;
      tables_are = subst (λ (d : Database). HoldOlder d.trees tables) (sym now) keeps.tables_are;
    }

-- ---- where it is lacking, no text of an object is its own

words_are : (text : List ℕ) (v : Value) → is_words text v ≡ true → v ≡ Text text
words_are text Null h = absurd (cc)
words_are text (Int n) h = absurd (cc)
words_are text (Real x) h = absurd (cc)
words_are text (Text t) h = ap Text (sym ((bytes_eq-Decides text t).0 h))
words_are text (Blob b) h = absurd (cc)

same_words : {a b : List ℕ} → ◌≡◌ {A = Value} (Text a) (Text b) → a ≡ b
same_words e = cc

no_index : (table : Table) (index : Index) → index_defined_by table redirect_made ≡ Ok index → ⊥
unfolding understood everything
no_index table index h = absurd (cc)

unnamed : AllByRecursion (λ (t : Table). bytes_eq t.name (codes "redirect") ≡ false) schema_8.tables
unnamed = (refl, (refl, (refl, (refl, (refl, (refl, (refl, (refl, tt))))))))

redirect_is : bytes_eq (codes "redirect") (codes "redirect") ≡ true
redirect_is = refl

module _ (objects : List Row) (listed : AreListed objects schema_8) (object : Row) (here : Has objects object) (text : column object 4 ≡ Text redirect_made) where
  no_table : is_table_row object ≡ true → ⊥
  no_table is =
      let found = zipped_right IsTableRow _ schema_8.tables object listed.tables (has_kept is_table_row objects object here is) in
      let row = found.2 in
      let made = row.defined in
      let sql : row.sql ≡ redirect_made = same_words (sym row.sql_is ∙ text) in
      let table : made.0 ≡ record redirect_table { tree = 0 } = same_value (sym (subst (λ s. table_defined_by s ≡ Ok made.0) sql made.1) ∙ makes_redirect.defined) in
      let name : found.0.name ≡ codes "redirect" = ap (λ (t : Table). t.name) made.2 ∙ ap (λ (t : Table). t.name) table in
      let other = all_has (λ (t : Table). bytes_eq t.name (codes "redirect") ≡ false) schema_8.tables found.0 unnamed found.1 in
      true≢false (sym redirect_is ∙ subst (λ n. bytes_eq n (codes "redirect") ≡ false) name other)

  no_view : is_view_row object ≡ true → ⊥
  no_view is = (zipped_right IsViewRow _ schema_8.views object listed.views (has_kept is_view_row objects object here is)).1

  no_other : is_table_row object ≡ false → is_view_row object ≡ false → ⊥
  no_other table view =
      let found = zipped_right (IsIndexRow schema_8.tables) _ schema_8.indexes object listed.indexes (has_kept is_index_row objects object here (rw (table, view) refl)) in
      let row = found.2 in
      let made = subst (IsDefined row.table found.0) text row.defined in
      no_index row.table made.0 made.1

  pub none_has_it : ⊥
  none_has_it = elim (cases_Bool (is_table_row object)) [
    | inl table ↦ no_table table
    | inr table ↦ elim (cases_Bool (is_view_row object)) [ inl view ↦ no_view view | inr view ↦ no_other table view ]
  ]

was_mapped : {X Y : Type 0} (f : X → Y) (xs : List X) (y : Y) → Has (map f xs) y → (x : X) × Has xs x × (y ≡ f x)
was_mapped f [] y h = absurd h
was_mapped f (x ∷ xs) y (inl h) = (x, inl refl, h)
was_mapped f (x ∷ xs) y (inr h) = let found = was_mapped f xs y h in (found.0, inr found.1, found.2)

pub finds_no_redirect : (old new : State) (rows : List Row) → old.now.schema ≡ schema_8 → IsDatabase old.now → Shown objects_text [] old new rows → list_any (shows_text redirect_made) rows ≡ true → ⊥
finds_no_redirect old new rows was sound h any =
    let objects = old.now.trees catalog_tree in
    let listed : AreListed objects schema_8 = subst (AreListed objects) was sound.lists.listed in
    let same = list_any-IsPermutation (shows_text redirect_made) _ _ (shows_objects schema_8 older_objects old new rows was h) in
    let hit = some_has (shows_text redirect_made) _ (same ∙ any) in
    let row = was_mapped (shows (col 1 5 ∷ []) []) _ hit.0 hit.1 in
    let kept = has_filtered (passes_all tests []) _ row.0 row.1 in
    let put : Has (map shown objects) row.0 = elim (put_all_has (map shown objects) [] row.0 kept.0) [ inl there ↦ there | inr none ↦ absurd none ] in
    let object = was_mapped shown objects row.0 put in
    let value : hit.0 ≡ column object.0 4 ∷ [] = row.2 ∙ ap (shows (col 1 5 ∷ []) []) object.2 in
    none_has_it objects listed object.0 object.1 (words_are redirect_made (column object.0 4) (sym (ap (shows_text redirect_made) value) ∙ hit.2))

module _ {X : Type 0} (p : X → Bool) (xs : List X) where
  counted : (ys : List X) → length ys ≡ 1 → ((y : X) → Has ys y → Has xs y × (p y ≡ true)) → list_any p xs ≡ true
  counted [] one passes = absurd (omega (arith, one))
  counted (y ∷ ys) one passes = let it = passes y (inl refl) in some_from p xs y it.0 it.1

  pub some_counted : count_by p xs ≡ 1 → list_any p xs ≡ true
  some_counted one = counted (filter p xs) (length-filter p xs ∙ one) (has_filtered p xs)

-- a store without redirect has tables of a wiki
pub older_is_made : (s : State) (tables : StoreTables) → HoldsOlder s tables → IsMade s.now.schema
older_is_made s tables holds = inl holds.schema

-- ---- a refusal

pub reads_known : (schema : Schema) → IsKnown schema → ReadsObjects schema
reads_known schema (inl is) = subst ReadsObjects (sym is) blank_objects
reads_known schema (inr (inl is)) = subst ReadsObjects (sym is) older_objects
reads_known schema (inr (inr is)) = subst ReadsObjects (sym is) store_objects

pub is_same : (s : State) → IsAsBefore s s
is_same s = record { now_is = refl; committed_is = refl }

pub unchanged_is_same : (old new : State) → IsUnchanged old new → IsAsBefore old new
unchanged_is_same old new same = record { now_is = same.0.now_is; committed_is = same.0.committed_is }

pub back_is_same : (old mid new : State) → old.now ≡ old.committed → (IsTrue mid.is_open → mid.committed ≡ old.committed) → IsRolledBack mid new → IsTrue new.is_open → IsAsBefore old new
back_is_same old mid new settled kept back is_open =
    let was = kept (back.was_open is_open) in
    record { now_is = (back.undone is_open).0 ∙ was ∙ sym settled; committed_is = (back.undone is_open).1 ∙ was }

pub query_is_same : (old new : State) (e : Error) → IsKnown old.now.schema → old.now ≡ old.committed → IsTrue new.is_open → FailsToQuery objects_text [] old new e → IsAsBefore old new
query_is_same old new e known settled is_open h = elim (query_rests objects_text old new e (reads_known old.now.schema known).plain h) [
  | inl same ↦ unchanged_is_same old new same
  | inr back ↦ back_is_same old old new settled (λ _. refl) back is_open
]

pub unchanged_committed : (old asked mid : State) → IsUnchanged old asked → KeepsCommit asked mid → IsTrue mid.is_open → mid.committed ≡ old.committed
unchanged_committed old asked mid same kept is_open = kept.committed is_open ∙ same.0.committed_is

pub commit_is_same : {A : Type 0} (old asked mid new : State) (r : Result A Error) → (IsKnown old.now.schema → IsUnchanged old asked) → KeepsCommit asked mid → IsTrue mid.in_transaction → IfErr r (FailsToCommit mid new) → IsTrue new.is_open
    → OnErr r (IsKnown old.now.schema → old.now ≡ old.committed → IsAsBefore old new)
commit_is_same old asked mid new (Ok a) same kept inside fails is_open = tt
commit_is_same old asked mid new (Err e) same kept inside (inl fails) is_open = λ known settled. back_is_same old mid new settled (unchanged_committed old asked mid (same known) kept) fails.3 is_open
commit_is_same old asked mid new (Err e) same kept inside (inr late) is_open = absurd (true≢false (sym inside ∙ late.1))
