-- The reports that stand, and their words (own).
use Rattle.std.specs.Prelude.{ℕ, List, [], ◌∷◌, Option, option_map, find, bytes_eq, codes}
use Rattle.wk_report_rules.specs.declared.Report.{Report}
use Rattle.wk_report_rules.specs.declared.Report.TheVariants.{Wanted, Orphaned, Uncategorized, DoubleRedirects, MostTemplates}

-- each report, behind its word
abbrev pub reports : List (List ℕ × Report)
reports =
    (codes "wanted", Wanted) ∷ (codes "orphaned", Orphaned) ∷ (codes "uncategorized", Uncategorized) ∷ (codes "doubleredirects", DoubleRedirects)
    ∷ (codes "mosttemplates", MostTemplates) ∷ []

-- the report that the word names, where it names one that stands
abbrev pub report_named : List ℕ → Option Report
report_named word = option_map (λ entry. entry.1) (find (λ entry. bytes_eq entry.0 word) reports)
