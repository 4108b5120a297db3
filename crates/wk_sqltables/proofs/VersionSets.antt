-- The statement on the table site.
use Rattle.std.proofs.Common.{◌≡◌, ℕ, ℤ, List, [], ◌∷◌, map, filter, codes, true, false, Ok, refl, ap, subst, ◌∙◌}
use Rattle.std.specs.Fmt.{decimal}
use Rattle.std.specs.List.Sorted.{IsPermutation}
use Rattle.std.specs.Ordering.{is_eq}
use Rattle.std.proofs.lemmas.Cmp.{tied_itself}
use Rattle.sqlite_value.specs.declared.value.Value.TheVariants.{Int, Text}
use Rattle.sqlite_value.specs.Order.{Row}
use Rattle.sqlite_value.proofs.OrderLemmas.{value_cmp_total}
use Rattle.sqlite_sql.specs.declared.ops.CompareOp.TheVariants.{Eq}
use Rattle.sqlite_trees.specs.Tree.{has_rowid, without_rowid}
use Rattle.sqlite_rules.specs.Calls.{ids_of}
use Rattle.sqlite_rules.specs.Edit.{edited, edit_of}
use Rattle.sqlite_rules.specs.declared.error.Rowids.TheVariants.{Given}
use Rattle.sqlite_typed.proofs.TestLemmas.{at_texts, bytes_eq_refl}
use Rattle.sqlite.specs.State.{State, ExecutesInside}
use Rattle.sqlite.proofs.Callers.{one_permutation}
use Rattle.wk_table_rules.specs.Changes.{set_version}
use Rattle.wk_sqltables.specs.StoreSchema.{site_table}
use Rattle.wk_sqltables.specs.Held.{IsVersion, Makes}
use Rattle.wk_sqltables.specs.Statements.{set_version_text}
use Rattle.wk_sqltables.proofs.Picked.{passes_all, shows}
use Rattle.wk_sqltables.proofs.Casts.{cast_int, one_test}
use Rattle.wk_sqltables.proofs.Steps.{updates}
use Rattle.wk_sqltables.proofs.Frames.{version_only}
use Rattle.wk_sqltables.proofs.Meanings.{by_version, version_changes, set_version_is, set_version_plain}

abbrev row_of : ℤ → List ℕ → Row
row_of n text = Int n ∷ Text (codes "version") ∷ Text text ∷ []

passes : (params : Row) (n : ℤ) (text : List ℕ) → passes_all by_version params (row_of n text) ≡ true
passes params n text = one_test _ _ (at_texts false Eq (codes "version") (codes "version") ∙ bytes_eq_refl (codes "version"))

itself : (n : ℤ) (text : List ℕ) → has_rowid n (row_of n text) ≡ true
itself n text = ap is_eq (tied_itself value_cmp_total (Int n))

none_left : (n : ℤ) (text : List ℕ) → without_rowid n (row_of n text ∷ []) ≡ []
none_left n text = rw (itself n text) refl

one_passes : (params : Row) (n : ℤ) (text : List ℕ) → filter (passes_all by_version params) (row_of n text ∷ []) ≡ row_of n text ∷ []
one_passes params n text = rw (passes params n text) refl

pub sets_version : (old new : State) (count : ℕ) (version : ℕ) → ExecutesInside 0 set_version_text (Text (decimal version) ∷ []) old new (Ok count) → Makes old new (set_version version)
sets_version old new count version h tables holds fit =
    let params = Text (decimal version) ∷ [] in
    let db = old.now.trees in
    let was = holds.tables_are.version in
    let n = was.number in
    let it = updates 7 site_table refl refl old new params set_version_text holds.schema set_version_plain count h by_version version_changes set_version_is in
    let found = it.0 in
    let shown : Row = Int n ∷ row_of n (decimal version) in
    let picked : map (shows version_changes params) (filter (passes_all by_version params) (db 12)) ≡ shown ∷ [] =
    ap (λ l. map (shows version_changes params) (filter (passes_all by_version params) l)) was.rows_are ∙ ap (map (shows version_changes params)) (one_passes params n (decimal tables.version)) in
    let one : found ≡ shown ∷ [] = one_permutation shown found (subst (λ l. IsPermutation l found) picked it.1) in
    let rows : edited db (edit_of db site_table (ids_of found) Given 1 found) ≡ row_of n (decimal version) ∷ [] =
    ap (λ l. edited db (edit_of db site_table (ids_of l) Given 1 l)) one
    ∙ rw (was.rows_are, none_left n (decimal tables.version), cast_int n) refl in
    let is : IsVersion (new.now.trees 12) version = record { number = n; rows_are = it.2.applies.rows ∙ rows } in
    record { inside = it.2.inside; schema = it.2.schema; tables_are = version_only db new.now.trees tables holds.tables_are it.2.applies.tables version is }
