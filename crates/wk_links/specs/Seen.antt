-- An output as the search for links sees it (own).
use Rattle.std.specs.Prelude.{ℕ, List, map}
use Rattle.wk_text_rules.specs.Marked.{MarkedByte, plain, sealed}

-- A sealed byte is seen as a newline. Neither is a byte of a target, or one of the brackets or the bar.
abbrev pub seen_byte : MarkedByte → ℕ
seen_byte (plain b) = b
seen_byte (sealed b) = 10

abbrev pub seen : List MarkedByte → List ℕ
seen out = map seen_byte out
