-- Parts between tags, from a place on.
use Rattle.std.specs.Prelude.{◌≡◌, ℕ, ◌+◌, ◌-◌, ◌<◌, ◌≤◌, List, [], ◌∷◌, length, take, drop, filter_map, codes, Option, MatchOption}
use Rattle.wk_text_rules.specs.Shapes.{spans_from}
use Rattle.wk_tree_rules.specs.Selection.{part_at}
use Rattle.wk_lex.specs.Places.{byte_before}

-- the parts that begin at a place or further on
abbrev pub parts_from : List ℕ → ℕ → List (List ℕ)
parts_from text at = filter_map (λ span. span.kind) (spans_from part_at at (byte_before at text) 0 (drop at text))

-- the first part that begins at a place or further on stands between two places, the second that of its end tag
pub record IsPartBetween (text : List ℕ) (from : ℕ) (part : ℕ × ℕ) : Type 0 where
  pub parts : parts_from text from ≡ take (part.1 - part.0) (drop part.0 text) ∷ parts_from text (part.1 + length (codes "</onlyinclude>"))
  pub start : from < part.0
  pub order : part.0 ≤ part.1
  pub within : part.1 + length (codes "</onlyinclude>") ≤ length text

-- that part, or that there is none
abbrev pub IsNextPart : List ℕ → ℕ → Option (ℕ × ℕ) → Type 0
IsNextPart text from found = MatchOption found (parts_from text from ≡ []) (IsPartBetween text from)
