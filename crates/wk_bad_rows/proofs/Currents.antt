-- The current revision of a page, behind one more revision.
use Rattle.std.proofs.Common.{◌≡◌, ℕ, ◌+◌, ◌<◌, ◌∙◌, sym, length, take, get_or, Bool, true, false, eqb, List, [], ◌∷◌, ◌++◌, Option, Some, None, refl, ap, inl, inr, if◌then◌else◌}
use Rattle.std.specs.List.{filter, last_or}
use Rattle.std.proofs.lemmas.Bool.{cases_Bool}
use Rattle.std.proofs.lemmas.List.{append-nil, take_more}
use Rattle.std.proofs.lemmas.List.Elements.{filter-append}
use Rattle.wk_table_rules.specs.Rows.{RevisionColumns}
use Rattle.wk_table_rules.specs.GoodStore.{last_revision, current_of}
use Rattle.wk_bad_rows.specs.Keys.{current_with}

last_or-push : {X : Type 0} (o : Option X) (xs : List X) (x : X) → last_or o (xs ++ x ∷ []) ≡ Some x
last_or-push o [] x = refl
last_or-push o (y ∷ xs) x = last_or-push (Some y) xs x

last-own : (revisions : List RevisionColumns) (new : RevisionColumns) (page : ℕ) → eqb new.rev_page page ≡ true → last_revision (revisions ++ new ∷ []) page ≡ Some new
last-own revisions new page same =
    rw (filter-append (λ revision. eqb revision.rev_page page) revisions (new ∷ []), same) (last_or-push None (filter (λ revision. eqb revision.rev_page page) revisions) new)

last-other : (revisions : List RevisionColumns) (new : RevisionColumns) (page : ℕ) → eqb new.rev_page page ≡ false → last_revision (revisions ++ new ∷ []) page ≡ last_revision revisions page
last-other revisions new page other =
    rw (filter-append (λ revision. eqb revision.rev_page page) revisions (new ∷ []), other) (ap (last_or None) (append-nil (filter (λ revision. eqb revision.rev_page page) revisions)))

current_from : Option RevisionColumns → ℕ
current_from found = elim found [ None ↦ 0 | Some last ↦ if last.rev_gone then 0 else last.rev_id ]

pub current-more : (revisions : List RevisionColumns) (new : RevisionColumns) (page : ℕ) → current_of (revisions ++ new ∷ []) page ≡ current_with (current_of revisions page) new page
unfolding current_from
current-more revisions new page = elim (cases_Bool (eqb new.rev_page page)) [
  | inl same ↦ rw same (ap current_from (last-own revisions new page same))
  | inr other ↦ rw other (ap current_from (last-other revisions new page other))
]

-- one more of a list
pub current-next : (revisions : List RevisionColumns) (i : ℕ) (row : RevisionColumns) (page : ℕ) → i < length revisions → row ≡ get_or revisions i row
    → current_of (take (i + 1) revisions) page ≡ current_with (current_of (take i revisions) page) row page
current-next revisions i row page inside read =
    ap (λ front. current_of front page) (take_more revisions i row inside ∙ ap (λ r. take i revisions ++ r ∷ []) (sym read)) ∙ current-more (take i revisions) row page
