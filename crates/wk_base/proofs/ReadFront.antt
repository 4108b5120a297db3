-- A read that fills the room as far as the rest goes.
use Rattle.std.proofs.Common.{◌≡◌, ℕ, ◌<◌, ◌++◌, List, [], min, length, take, drop, sym, ap, ◌∙◌, arith, take_at, length-take-le, take-append-drop, drop_of_length-le}

-- the front of the room has what the rest has lost, and nothing was read only where nothing was left
pub consumes_front : (rest later old new : List ℕ) (n : ℕ) → n ≡ min (length old) (length rest)
    → new ≡ take n rest ++ drop n old → length new ≡ length old → later ≡ drop n rest
    → (rest ≡ take n new ++ later) × (n ≡ 0 → 0 < length new → later ≡ [])
consumes_front rest later old new n count copied long back =
    let front : take n new ≡ take n rest = ap (take n) copied ∙ take_at (take n rest) (drop n old) n (length-take-le n rest (omega arith)) in (
      sym (take-append-drop n rest) ∙ ap (λ l. l ++ drop n rest) (sym front) ∙ ap (λ l. take n new ++ l) (sym back),
      λ none room. back ∙ drop_of_length-le rest (omega arith),
    )
