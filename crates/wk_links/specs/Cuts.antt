-- Brackets that cut a text between its characters (own).
use Rattle.std.specs.Prelude.{ℕ, ◌+◌, ◌-◌, ◌≤◌, List, Option, Some, None}
use Rattle.std.specs.Str.{IsCharBoundary}
use Rattle.wk_text_rules.specs.Occurrences.{most_label}
use Rattle.wk_links.specs.declared.brackets.Brackets.{Brackets}

-- a label that begins behind the bar ends here
abbrev pub IsLabelCut : List ℕ → ℕ → Option ℕ → Type 0
IsLabelCut text bar None = Unit {0}
IsLabelCut text bar (Some end) =
    (bar + 1 ≤ end) × IsCharBoundary text (bar + 1) × IsCharBoundary text end × (end - (bar + 1) ≤ most_label)

-- the target and the label are parts of a text that stand between characters
pub record IsCutBy (text : List ℕ) (b : Brackets) : Type 0 where
  pub in_order : b.start + 2 ≤ b.target_end
  pub from : IsCharBoundary text (b.start + 2)
  pub to : IsCharBoundary text b.target_end
  pub label : IsLabelCut text b.target_end b.label_end
