-- The params of a fan job.
use Rattle.std.specs.Prelude.{ℕ, Bool, false, ◌||◌, bytes_eq, codes, nat_le, List, Option, Some, None}
use Rattle.wk_text_rules.specs.Decimal.{decimal_number}
use Rattle.wk_page_rules.specs.Verdict.{max_pages}

-- the word says how far a fan job reaches
abbrev pub is_reach : List ℕ → Bool
is_reach word = bytes_eq word (codes "text") || bytes_eq word (codes "both")

abbrev pub is_low : Option ℕ → Bool
is_low None = false
is_low (Some cursor) = nat_le cursor max_pages

-- the number is one that a cursor can have
abbrev pub is_cursor : List ℕ → Bool
is_cursor number = is_low (decimal_number number)
