-- The query for the objects of a database whose tables are known.
use Rattle.std.proofs.Common.{◌≡◌, List, [], ◌∷◌, map, filter, codes, Bool, true, false, refl, sym, ap, subst, ◌∙◌, IsPermutation, append-nil, arith}
use Rattle.std.proofs.lemmas.List.Sorted.{length_permutation}
use Rattle.sqlite_value.specs.Order.{Row}
use Rattle.sqlite_value.specs.declared.value.Value.TheVariants.{Null}
use Rattle.sqlite_sql.specs.Term.{Term, col, lit, op1, op2}
use Rattle.sqlite_sql.specs.declared.ops.UnaryOp.TheVariants.{Not}
use Rattle.sqlite_sql.specs.declared.ops.BinaryOp.TheVariants.{Is}
use Rattle.sqlite_value.specs.declared.keys.Collation.TheVariants.{Binary}
use Rattle.sqlite_tied.specs.Compute.{everything}
use Rattle.sqlite.specs.Listing.{listing_schema, understood, reads_listing, shown, IsSourceOf}
use Rattle.sqlite.specs.Program.{overlay}
use Rattle.sqlite.specs.Steps.{IsEmpty}
use Rattle.sqlite_catalog.specs.Listing.{AreListed, is_table_row, is_view_row}
use Rattle.sqlite_trees.specs.Objects.{catalog_tree}
use Rattle.sqlite.specs.Effect.{Database, Reads}
use Rattle.sqlite_schema.specs.declared.schema.Schema.{Schema}
use Rattle.sqlite.specs.State.{State, IsUnchanged, Shown}
use Rattle.sqlite_rules.specs.Edit.{put_all}
use Rattle.sqlite.specs.Command.TheVariants.{Select}
use Rattle.sqlite.proofs.Callers.{IsPlain, command_of}
use Rattle.wk_sqltables.specs.StoreSchema.{no_schema, store_schema}
use Rattle.wk_sqlkeeper.specs.Making.{IsBlank, objects_text, schema_8}
use Rattle.wk_sqltables.proofs.Picked.{picked, picks, passes_all, shows}
use Rattle.wk_sqlkeeper.proofs.KeptReads.{shown_unchanged}

abbrev pub tests : List Term
tests = op1 Not (op2 (Is Binary) (col 1 5) (lit Null)) ∷ []

-- over this schema the query reads the list of objects
pub record ReadsObjects (schema : Schema) : Type 0 where
  pub listing : reads_listing schema objects_text ≡ true
  pub plain : IsPlain (understood schema objects_text)
  pub means : command_of (understood schema objects_text) ≡ Select (record { lets = []; body = picked 0 tests (col 1 5 ∷ []) }) (codes "sql" ∷ [])

pub blank_objects : ReadsObjects no_schema
unfolding understood listing_schema everything
blank_objects = record { listing = refl; plain = (refl, refl); means = refl }

pub older_objects : ReadsObjects schema_8
unfolding understood listing_schema everything
older_objects = record { listing = refl; plain = (refl, refl); means = refl }

pub store_objects : ReadsObjects store_schema
unfolding understood listing_schema everything
store_objects = record { listing = refl; plain = (refl, refl); means = refl }

none_of : {X : Type 0} (xs : List X) → IsPermutation [] xs → xs ≡ []
none_of [] same = refl
none_of (x ∷ xs) same = absurd (let n = length_permutation [] (x ∷ xs) same in omega (arith, n))

pub shows_objects : (schema : Schema) → ReadsObjects schema → (old new : State) (rows : List Row) → old.now.schema ≡ schema → Shown objects_text [] old new rows
    → IsPermutation (map (shows (col 1 5 ∷ []) []) (filter (passes_all tests []) (put_all [] (map shown (old.now.trees catalog_tree))))) rows
unfolding Shown
shows_objects schema reads old new rows was h =
    let known = sym h.1.is ∙ ap (λ s. understood s objects_text) was in
    let bare = subst IsPlain (sym known) reads.plain in
    let it = rw (bare.0, bare.1, append-nil []) at h.2 in
    let source = subst (λ b. IsSourceOf b old.now it.0) (ap (λ s. reads_listing s objects_text) was ∙ reads.listing) it.1 in
    let got = subst (λ k. Reads k it.0 [] rows) (ap command_of known ∙ reads.means) it.2 in
    let perm = picks 0 tests (col 1 5 ∷ []) (overlay it.0.trees []) [] rows (got.answer Null) in
    subst (λ l. IsPermutation (map (shows (col 1 5 ∷ []) []) (filter (passes_all tests []) l)) rows) source.1 perm

pub finds_none : (old new : State) (rows : List Row) → IsBlank old → Shown objects_text [] old new rows → rows ≡ []
finds_none old new rows blank h =
    none_of rows (subst (λ l. IsPermutation (map (shows (col 1 5 ∷ []) []) (filter (passes_all tests []) (put_all [] (map shown l)))) rows) blank.objects (shows_objects no_schema blank_objects old new rows blank.schema h))

-- and leaves it as it was
pub shows_unchanged : (schema : Schema) → ReadsObjects schema → (old new : State) (rows : List Row) → old.now.schema ≡ schema → Shown objects_text [] old new rows → IsUnchanged old new
shows_unchanged schema reads old new rows was h = shown_unchanged objects_text old new rows (subst (λ s. IsPlain (understood s objects_text)) (sym was) reads.plain) h

pub stays_blank : (old new : State) (rows : List Row) → IsBlank old → Shown objects_text [] old new rows → new.now.schema ≡ no_schema
stays_blank old new rows blank h = ap (λ (d : Database). d.schema) (shows_unchanged no_schema blank_objects old new rows blank.schema h).0.now_is ∙ blank.schema

-- ---- a database that is empty

nothing_listed : (objects : List Row) → AreListed objects no_schema → objects ≡ []
nothing_listed [] h = refl
nothing_listed (r ∷ rest) h = absurd (go (is_table_row r) (is_view_row r) refl refl)
  where
    go : (table view : Bool) → is_table_row r ≡ table → is_view_row r ≡ view → ⊥
    go true view a b = rw a at h.tables
    go false true a b = rw b at h.views
    go false false a b = rw (a, b) at h.indexes

pub empty_is_blank : (s : State) → IsEmpty s → IsBlank s
empty_is_blank s h = record {
  is_open = h.0.is_open;
  settled = h.0.clean;
  schema = h.2;
  objects = nothing_listed (s.now.trees catalog_tree) (subst (AreListed (s.now.trees catalog_tree)) h.2 (h.1 h.0.is_open).0.lists.listed);
}
