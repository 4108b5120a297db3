-- Which titles are counted, and which of them are listed.
use Rattle.std.specs.Prelude.{ℕ, Bool, true, List, [], ◌∷◌, filter, is_none, map, if◌then◌else◌}
use Rattle.wk_text_rules.specs.Titles.{PageTitle}
use Rattle.wk_page_rules.specs.PageRows.{PageRows}
use Rattle.wk_view_rules.specs.Worlds.{World}
use Rattle.wk_report_rules.specs.Reports.{Line, TitledRows, most_templates, wanted}
use Rattle.wk_reports.specs.declared.counted.Counted.{Counted}
use Rattle.wk_reports.specs.declared.counted.Counted.TheVariants.{Links, Templates}

-- the titles among a page's rows that are counted
abbrev pub titles_in : Counted → PageRows → List PageTitle
titles_in Links rows = rows.links
titles_in Templates rows = rows.templates

-- a title that was counted is listed
abbrev pub is_listed : Counted → World → PageTitle → Bool
is_listed Links world title = is_none (world title)
is_listed Templates world title = true

-- the lines that are to be found
abbrev pub counted_lines : Counted → World → List TitledRows → List Line
counted_lines Links world pages = wanted world pages
counted_lines Templates world pages = most_templates pages

-- the line of a title that was counted
abbrev pub entry_line : PageTitle × ℕ → Line
entry_line entry = record { count = entry.1; titles = entry.0 ∷ [] }

-- the lines of what was counted, of the titles that are listed
abbrev pub listed_lines : Counted → World → List (PageTitle × ℕ) → List Line
listed_lines which world entries = map entry_line (filter (λ entry. is_listed which world entry.0) entries)

-- the line alone, or none
abbrev pub lines_if : Bool → Line → List Line
lines_if listed line = if listed then line ∷ [] else []
