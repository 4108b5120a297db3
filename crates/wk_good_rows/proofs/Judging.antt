-- Rows that are judged one after the other: from the first to the last, or to the first that isn't good.
use Rattle.std.proofs.Common.{◌≡◌, ℕ, zero, suc, ◌+◌, ◌<◌, ◌≤◌, Bool, true, false, List, [], ◌∷◌, ◌++◌, length, take, drop, get_or, Some, None, refl, sym, ap, ◌∙◌, arith}
use Rattle.std.proofs.lemmas.List.{drop_more, drop_all, take_more, length-take-le}
use Rattle.wk_table_rules.specs.GoodStore.{first_bad, first_bad_after}
use Rattle.wk_good_rows.specs.Judged.{Judged}

-- the row at a place
pub item-at : {Row : Type 0} (rows : List Row) (i : ℕ) → i < length rows → (row : Row) × (row ≡ get_or rows i row)
item-at [] i inside = absurd (omega arith)
item-at (row ∷ rows) zero inside = (row, refl)
item-at (row ∷ rows) (suc i) inside = item-at rows i (omega arith)

pub take-next : {Row : Type 0} (rows : List Row) (i : ℕ) (row : Row) → i < length rows → row ≡ get_or rows i row → take (i + 1) rows ≡ take i rows ++ row ∷ []
take-next rows i row inside read = take_more rows i row inside ∙ ap (λ r. take i rows ++ r ∷ []) (sym read)

module _ {Row : Type 0} (is_good : List Row → Row → Bool) (rows : List Row) (i : ℕ) where
  -- the row at i is next
  at-row : (row : Row) → i < length rows → row ≡ get_or rows i row → Judged is_good rows i
      → first_bad is_good rows ≡ first_bad_after is_good (take i rows) (row ∷ drop (i + 1) rows)
  at-row row inside read judged =
      judged ∙ ap (first_bad_after is_good (take i rows)) (drop_more rows i row inside ∙ ap (λ r. r ∷ drop (i + 1) rows) (sym read))

  pub Judged-more : (row : Row) → i < length rows → row ≡ get_or rows i row → is_good (take i rows) row ≡ true → Judged is_good rows i → Judged is_good rows (i + 1)
  Judged-more row inside read good judged =
      let here : first_bad_after is_good (take i rows) (row ∷ drop (i + 1) rows) ≡ first_bad_after is_good (take i rows ++ row ∷ []) (drop (i + 1) rows) = rw good refl in
      at-row row inside read judged ∙ here ∙ ap (λ before. first_bad_after is_good before (drop (i + 1) rows)) (sym (take-next rows i row inside read))

  pub Judged-bad : (row : Row) → i < length rows → row ≡ get_or rows i row → is_good (take i rows) row ≡ false → Judged is_good rows i → Some (i + 1) ≡ first_bad is_good rows
  Judged-bad row inside read bad judged =
      let here : first_bad_after is_good (take i rows) (row ∷ drop (i + 1) rows) ≡ Some (length (take i rows) + 1) = rw bad refl in
      let place : length (take i rows) ≡ i = length-take-le i rows (omega arith) in
      sym (at-row row inside read judged ∙ here ∙ ap (λ n. Some (n + 1)) place)

  pub Judged-end : length rows ≤ i → Judged is_good rows i → None ≡ first_bad is_good rows
  Judged-end past judged = sym (judged ∙ ap (first_bad_after is_good (take i rows)) (drop_all i rows past))
