-- Rows that are judged one after the other.
use Rattle.std.specs.Prelude.{◌≡◌, ℕ, Bool, List, take, drop}
use Rattle.wk_table_rules.specs.GoodStore.{first_bad, first_bad_after}

-- the first so many rows are good: what is left to judge decides
abbrev pub Judged : {Row : Type 0} → (List Row → Row → Bool) → List Row → ℕ → Type 0
Judged is_good rows n = first_bad is_good rows ≡ first_bad_after is_good (take n rows) (drop n rows)
