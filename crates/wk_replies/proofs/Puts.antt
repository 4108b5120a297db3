-- A member that is put by its entry.
use Rattle.std.proofs.Common.{◌≡◌, ℕ, List, ◌∷◌, String, Global, string_bytes, string_cmp, ap, ◌∙◌}
use Rattle.std.specs.BTreeMap.{insert_entry}
use Rattle.serde_json.specs.Data.{put}
use Rattle.serde_json.specs.View.{view, members_view}
use Rattle.serde_json.specs.declared.value.Value.{Value}
use Rattle.serde_json.proofs.Views.{Entry, members_view-insert_entry}

-- what is put at a new entry is the member of this name
pub put_at_entry : (old new written : List Entry) (key : String Global) (name : List ℕ) (value w : Value) → written ≡ insert_entry string_cmp old key w → w ≡ value → string_bytes key ≡ name → new ≡ written
    → members_view new ≡ put name (view value) (members_view old)
put_at_entry old new written key name value w is same copied then =
    ap members_view (then ∙ is) ∙ members_view-insert_entry old key w ∙ ap (λ v. put (string_bytes key) (view v) (members_view old)) same
    ∙ ap (λ k. put k (view value) (members_view old)) copied
