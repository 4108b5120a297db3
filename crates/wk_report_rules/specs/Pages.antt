-- The link rows of all pages of a wiki, as they are stored and as they are from scratch (own).
use Rattle.std.specs.Prelude.{ℕ, List, map}
use Rattle.wk_page_rules.specs.History.{Page}
use Rattle.wk_view_rules.specs.Rows.{rows}
use Rattle.wk_wiki_rules.specs.States.{State, stored_at, world_of}
use Rattle.wk_wiki_rules.specs.Revisions.{numbered_pages}
use Rattle.wk_report_rules.specs.Reports.{TitledRows}

abbrev pub page_stored : State → ℕ × Page → TitledRows
page_stored state (number, page) = record { title = page.title; rows = stored_at state number }

-- the pages that were ever saved, those that are missing now among them, each with the rows that are stored of it
abbrev pub stored_pages : State → List TitledRows
stored_pages state = map (page_stored state) (numbered_pages state.history)

abbrev pub page_expanded : State → ℕ × Page → TitledRows
page_expanded state (number, page) = record { title = page.title; rows = rows (world_of state) page.title }

-- the same pages, each with the rows of a new expansion in the present world
abbrev pub expanded_pages : State → List TitledRows
expanded_pages state = map (page_expanded state) (numbered_pages state.history)
