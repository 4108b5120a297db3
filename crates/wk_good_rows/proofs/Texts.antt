-- The bytes of the texts of revisions, after one more revision.
use Rattle.std.proofs.Common.{◌≡◌, ◌+◌, List, [], ◌∷◌, ◌++◌, length, ap, ◌∙◌, arith}
use Rattle.std.proofs.lemmas.List.Sums.{sum_by-append}
use Rattle.wk_table_rules.specs.Rows.{RevisionColumns}
use Rattle.wk_table_rules.specs.GoodStore.{texts_len}

pub texts_len-more : (revisions : List RevisionColumns) (new : RevisionColumns) → texts_len (revisions ++ new ∷ []) ≡ texts_len revisions + length new.rev_text
texts_len-more revisions new =
    let one : 0 + length new.rev_text ≡ length new.rev_text = omega arith in
    sum_by-append (λ (revision : RevisionColumns). length revision.rev_text) revisions (new ∷ []) ∙ ap (λ n. texts_len revisions + n) one
