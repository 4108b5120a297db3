-- Look-ups in a table of names.
use Rattle.std.specs.Prelude.{ℕ, ℤ, List, [], Option, Some, None, option_map, find}
use Rattle.std.specs.Ordering.{int_eq}
use Rattle.wk_text_rules.specs.Titles.{same_but_case, underscored}

-- the name that the table gives a number, empty where it gives none
abbrev pub name_in : List (ℤ × List ℕ) → ℤ → List ℕ
name_in table ns = elim (find (λ entry. int_eq ns entry.0) table) [ None ↦ [] | Some entry ↦ entry.1 ]

-- the number whose name in the table this is, written with underscores and in any case
abbrev pub called_in : List (ℤ × List ℕ) → List ℕ → Option ℤ
called_in table written =
    option_map (λ entry. entry.0) (find (λ entry. same_but_case (underscored entry.1) written) table)
