-- Outputs as runs: texts whose bytes all have one mark.
use Rattle.std.specs.Prelude.{ℕ, ◌<◌, Bool, true, false, not, ◌≡◌, List, [], ◌∷◌, ◌++◌, length}
use Rattle.std.specs.Str.{IsUtf8}
use Rattle.wk_text_rules.specs.Marked.{MarkedByte, all_plain, all_sealed}

-- the bytes of a text, all of them sealed, or all of them plain
abbrev pub marked : Bool → List ℕ → List MarkedByte
marked true text = all_sealed text
marked false text = all_plain text

-- the output that runs are of, each a text and whether it is sealed
abbrev pub joined : List (List ℕ × Bool) → List MarkedByte
joined [] = []
joined (run ∷ runs) = marked run.1 run.0 ++ joined runs

-- the first run, if there is one, has the other mark
abbrev pub BeginsOtherwise : Bool → List (List ℕ × Bool) → Type 0
BeginsOtherwise sealed [] = Unit {0}
BeginsOtherwise sealed (run ∷ runs) = run.1 ≡ not sealed

-- no run could be longer: none is empty, and the marks of neighbours differ
abbrev pub AreMaximal : List (List ℕ × Bool) → Type 0
AreMaximal [] = Unit {0}
AreMaximal (run ∷ runs) = (0 < length run.0) × BeginsOtherwise run.1 runs × AreMaximal runs

-- the bytes of each run are UTF-8
abbrev pub AreTexts : List (List ℕ × Bool) → Type 0
AreTexts [] = Unit {0}
AreTexts (run ∷ runs) = IsUtf8 run.0 × AreTexts runs
