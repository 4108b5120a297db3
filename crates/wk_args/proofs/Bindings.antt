-- What names are bound to, before and after one more is bound.
use Rattle.std.proofs.Common.{◌≡◌, ℕ, cond, List, [], ◌∷◌, Some, None, refl, sym, ap, ◌∙◌}
use Rattle.std.specs.Prelude.{bytes_eq, String, if◌then◌else◌}
use Rattle.std.specs.BTreeMap as tree
use Rattle.std.specs.Cmp.Lexicographic.{slice_cmp, nat_list_cmp_total}
use Rattle.std.specs.FinMap.{FinMap, find, insert, empty, get, from_entries, get-empty, get-insert, get-from_entries, same_map, slice_cmp-IsAntisymmetric, nat_cmp-IsAntisymmetric}
use Rattle.std.specs.Map.{lookup}
use Rattle.std.specs.Ordering.{nat_cmp, is_eq}
use Rattle.std.specs.String.{string_bytes, string_cmp}
use Rattle.std.proofs.lemmas.Map.Text.{is_eq-slice_cmp, btree_map_updates_text}
use Rattle.std.proofs.lemmas.Bool.Decides.{same_from_decides}
use Rattle.std.proofs.lemmas.Slice.Eq.{bytes_eq-Decides}
use Rattle.wk_args.specs.Args.{bound}
use Rattle.wk_args.specs.Entries.{by_bytes}

-- bytes are equal in either order
bytes_eq_comm : (xs ys : List ℕ) → bytes_eq xs ys ≡ bytes_eq ys xs
bytes_eq_comm xs ys =
    same_from_decides {P = xs ≡ ys} _ _ (bytes_eq-Decides xs ys)
    (λ t. sym ((bytes_eq-Decides ys xs).0 t), λ e. (bytes_eq-Decides ys xs).1 (sym e))

-- no name is bound at first
pub bound-empty : {V : Type 0} (name : List ℕ) → bound (empty {X = V} {R = slice_cmp nat_cmp}) name ≡ None
bound-empty name = get-empty (slice_cmp nat_cmp) name

-- a name that is bound has its new value, and each other name what it had
pub bound-insert : {V : Type 0} (args : FinMap (slice_cmp nat_cmp) V) (name : List ℕ) (value : V) (other : List ℕ) → bound (insert args name value) other ≡ (if bytes_eq name other then Some value else bound args other)
bound-insert args name value other =
    get-insert nat_list_cmp_total args name value other ∙ ap (λ b. cond b (Some value) (get args other)) (is_eq-slice_cmp other name ∙ bytes_eq_comm other name)

-- a map's entries find what the map finds
find-by_bytes : {A V : Type 0} (entries : List (String A × V)) (name : List ℕ) → find (slice_cmp nat_cmp) name (by_bytes entries) ≡ lookup (λ k. is_eq (slice_cmp nat_cmp name (string_bytes k))) entries
find-by_bytes [] name = refl
find-by_bytes (e ∷ entries) name =
    ap (λ rest. cond (is_eq (slice_cmp nat_cmp name (string_bytes e.0))) (Some e.1) rest) (find-by_bytes entries name)

-- what a name is bound to is what the map finds
pub bound-from_entries : {A V : Type 0} (m : tree.BTreeMap (String A) V) (name : List ℕ) → bound (from_entries (by_bytes m.entries)) name ≡ tree.get_by_text m name
bound-from_entries m name = get-from_entries nat_list_cmp_total (by_bytes m.entries) name ∙ find-by_bytes m.entries name

-- a map in which one key has a new value binds its name
pub from_entries-updates : {A V : Type 0} (m n : tree.BTreeMap (String A) V) (name : List ℕ) (value : V) → tree.UpdatesBy string_cmp (λ k. slice_cmp nat_cmp name (string_bytes k)) m n (Some value) → from_entries {R = slice_cmp nat_cmp} (by_bytes n.entries) ≡ insert (from_entries (by_bytes m.entries)) name value
from_entries-updates m n name value h =
    same_map nat_list_cmp_total (slice_cmp-IsAntisymmetric nat_cmp-IsAntisymmetric) _ _
    (λ other. bound-from_entries n other ∙ btree_map_updates_text name m n (Some value) h other ∙ ap (λ found. cond (bytes_eq name other) (Some value) found) (sym (bound-from_entries m other)) ∙ sym (bound-insert (from_entries (by_bytes m.entries)) name value other))
