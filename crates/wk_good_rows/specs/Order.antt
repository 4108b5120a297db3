-- Rows in order, by a test of two rows.
use Rattle.std.specs.Prelude.{◌≡◌, ℕ, ◌-◌, ◌<◌, Bool, true, List, slice_index_or, take}
use Rattle.std.specs.List.{list_all}

-- what stands before a row that stands before another stands before that one
abbrev pub Carries : {Row : Type 0} → (Row → Row → Bool) → Type 0
Carries {Row} before = (a b c : Row) → before a b ≡ true → before b c ≡ true → before a c ≡ true

-- of the first so many rows the last one stands behind all others
abbrev pub IsInOrder : {Row : Type 0} → (Row → Row → Bool) → List Row → ℕ → Type 0
IsInOrder {Row} before rows n =
    (last : Row) → 0 < n → last ≡ slice_index_or rows (n - 1) last → list_all (λ earlier. before earlier last) (take (n - 1) rows) ≡ true
