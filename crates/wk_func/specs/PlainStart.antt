-- The plain bytes that an output begins with.
use Rattle.std.specs.Prelude.{ℕ, List, [], ◌∷◌}
use Rattle.wk_text_rules.specs.Marked.{MarkedByte, plain, sealed}

-- the bytes before the first sealed one
abbrev pub plain_start : List MarkedByte → List ℕ
plain_start [] = []
plain_start (plain b ∷ out) = b ∷ plain_start out
plain_start (sealed b ∷ out) = []
