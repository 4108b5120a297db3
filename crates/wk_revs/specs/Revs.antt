-- What `Revs` stands for.
use Rattle.std.specs.Prelude.{ℕ, ◌==◌, not, cond, List, [], filter, length, map}
use Rattle.wk_text_rules.specs.Titles.{PageTitle}
use Rattle.wk_page_rules.specs.History.{History, Page, Revision}

-- the revisions and pages, and for how many revisions more there is room
pub record Stored : Type 0 where
  pub history : History
  pub spare : ℕ

-- what the pages alone say of a history
abbrev pub of_pages : List Page → History
of_pages pages = record { revisions = []; pages = pages }

-- what the revisions alone say of a history
abbrev pub of_revisions : List Revision → History
of_revisions revisions = record { revisions = revisions; pages = [] }

-- ---- a map from the titles of pages to their current revisions, in the order of the pages

abbrev pub page_of_entry : PageTitle × ℕ → Page
page_of_entry entry = record { title = entry.0; current = entry.1 }

abbrev pub pages_of : List (PageTitle × ℕ) → List Page
pages_of entries = map page_of_entry entries

-- 1 for a page with a current revision, and 0 for one that is missing
abbrev pub existence : ℕ → ℕ
existence current = cond (not (current == 0)) 1 0

-- how many of the pages exist
abbrev pub existing_in : List (PageTitle × ℕ) → ℕ
existing_in entries = length (filter (λ entry. not (entry.1 == 0)) entries)

-- ---- the chains of a page's revisions

-- the page of each revision
abbrev pub owners : List Revision → List ℕ
owners revisions = map (λ revision. revision.page) revisions
