-- A number that tells most titles apart.
use Rattle.std.specs.Prelude.{ℕ, ◌+◌, ◌*◌, ◌-◌, List, length, slice_get, unwrap_or}
use Rattle.wk_text_rules.specs.Titles.{PageTitle}

-- a byte of a text, and 0 where it has none there
abbrev pub byte_in : List ℕ → ℕ → ℕ
byte_in text at = unwrap_or (slice_get text at) 0

-- the length of a title's key and its last two bytes, as one number
abbrev pub title_mark : PageTitle → ℕ
title_mark title =
    (length title.key * 256 + byte_in title.key (length title.key - 2)) * 256 + byte_in title.key (length title.key - 1)
