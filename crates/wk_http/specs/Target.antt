-- The empty lines before a head (RFC 9112 section 2.2).
use Rattle.std.specs.Prelude.{◌≢◌, ℕ, List, ◌++◌}
use Rattle.httparse.specs.Grammar.{LineEnd, print_end}

-- the bytes don't begin with an empty line
abbrev pub BeginsNoEmptyLine : List ℕ → Type 0
BeginsNoEmptyLine bytes = (end : LineEnd) (rest : List ℕ) → bytes ≢ print_end end ++ rest
