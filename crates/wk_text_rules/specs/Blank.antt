-- Blank bytes, and texts without them at their ends (own: space, tab, newline and carriage return, and no others).
use Rattle.std.specs.Prelude.{ℕ, ◌-◌, Bool, ◌||◌, ◌==◌, List, length, take, drop}
use Rattle.std.specs.List.{prefix_len, suffix_len, list_all}

-- space, tab, newline or carriage return
abbrev pub is_blank_byte : ℕ → Bool
is_blank_byte b = (b == 32 || b == 9) || (b == 10 || b == 13)

-- every byte is blank; so is no byte at all
abbrev pub is_blank : List ℕ → Bool
is_blank bytes = list_all is_blank_byte bytes

-- without the blank bytes at the front
abbrev pub trimmed_start : List ℕ → List ℕ
trimmed_start bytes = drop (prefix_len is_blank_byte bytes) bytes

-- without the blank bytes at the end
abbrev pub trimmed_end : List ℕ → List ℕ
trimmed_end bytes = take (length bytes - suffix_len is_blank_byte bytes) bytes

-- without the blank bytes at both ends
abbrev pub trimmed : List ℕ → List ℕ
trimmed bytes = trimmed_end (trimmed_start bytes)
