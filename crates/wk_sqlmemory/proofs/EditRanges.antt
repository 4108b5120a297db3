-- The numbers of the edits that a loop has seen.
use Rattle.std.proofs.Common.{◌≡◌, ◌+◌, ◌<◌, ◌≤◌, ℕ, List, [], ◌∷◌, ◌++◌, map, take, length, get_or, sym, ap, subst, ◌∙◌}
use Rattle.std.proofs.lemmas.List.{take_more, take_all}
use Rattle.wk_tables.specs.Edits.{edit_of}
use Rattle.wk_tables.specs.declared.change.RowEdit.{RowEdit}
use Rattle.wk_sqltables.proofs.Stored.{map_append}
use Rattle.wk_sqlmemory.specs.Told.{AreEditsInRange, IsEditInRange}
use Rattle.wk_sqlmemory.proofs.Told.{all_pushed}

pub none_in_range : (edits : List RowEdit) → AreEditsInRange (map edit_of (take 0 edits))
none_in_range [] = tt
none_in_range (e ∷ edits) = tt

pub more_in_range : (edits : List RowEdit) (i : ℕ) (e : RowEdit) → i < length edits → e ≡ get_or edits i e → AreEditsInRange (map edit_of (take i edits)) → IsEditInRange (edit_of e) → AreEditsInRange (map edit_of (take (i + 1) edits))
more_in_range edits i e low is before one =
    let more : take (i + 1) edits ≡ take i edits ++ e ∷ [] = take_more edits i e low ∙ ap (λ z. take i edits ++ z ∷ []) (sym is) in
    let both : map edit_of (take (i + 1) edits) ≡ map edit_of (take i edits) ++ edit_of e ∷ [] = ap (map edit_of) more ∙ map_append edit_of (take i edits) (e ∷ []) in
    subst AreEditsInRange (sym both) (all_pushed IsEditInRange (map edit_of (take i edits)) (edit_of e) before one)

pub all_in_range : (edits : List RowEdit) (i : ℕ) → length edits ≤ i → AreEditsInRange (map edit_of (take i edits)) → AreEditsInRange (map edit_of edits)
all_in_range edits i high h = subst (λ l. AreEditsInRange (map edit_of l)) (take_all i edits high) h
