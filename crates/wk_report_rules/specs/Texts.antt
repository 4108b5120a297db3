-- What is printed of a report (own).
use Rattle.std.specs.Prelude.{ℕ, List, [], ◌∷◌, ◌++◌, codes, flat_map, length}
use Rattle.std.specs.Fmt.{decimal}
use Rattle.wk_text_rules.specs.Titles.{PageTitle, shown}
use Rattle.wk_report_rules.specs.Reports.{Line}

-- a title behind others
abbrev pub next_title : PageTitle → List ℕ
next_title title = codes " -> " ++ shown title

-- shown titles, with an arrow between one and the next
abbrev pub titles_text : List PageTitle → List ℕ
titles_text [] = []
titles_text (title ∷ titles) = shown title ++ flat_map next_title titles

-- the count and the titles
abbrev pub line_text : Line → List ℕ
line_text line = decimal line.count ++ 32 ∷ titles_text line.titles ++ 10 ∷ []

-- each line, and then how many there are
abbrev pub report_text : List Line → List ℕ
report_text lines = flat_map line_text lines ++ codes "lines " ++ decimal (length lines) ++ 10 ∷ []
