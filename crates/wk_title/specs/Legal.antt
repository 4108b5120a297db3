-- Parts of what a key can't be.
use Rattle.std.specs.Prelude.{ℕ, Bool, ◌||◌, List, bytes_eq, codes}
use Rattle.wk_text_rules.specs.Titles.{begins_with_tildes, begins_with_percent_code, begins_with_character_reference}

-- a text that no key may hold stands at the front
abbrev pub begins_with_forbidden_text : List ℕ → Bool
begins_with_forbidden_text cs =
    begins_with_tildes cs || begins_with_percent_code cs || begins_with_character_reference cs

abbrev pub is_dot_part : List ℕ → Bool
is_dot_part part = bytes_eq part (codes ".") || bytes_eq part (codes "..")
