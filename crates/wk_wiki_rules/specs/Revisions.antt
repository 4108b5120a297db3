-- The pages and the revisions that a history has, as they are listed (MediaWiki's API:Revisions, API:RecentChanges and
-- API:Siteinfo list such; that a listing goes on below a number is own). Each comes with its number.
use Rattle.std.specs.Prelude.{ℕ, Bool, ◌&&◌, ◌==◌, not, nat_lt, List, filter, length, reverse, take, Option, None, option_map}
use Rattle.std.specs.List.{enumerate_from, last_or}
use Rattle.wk_page_rules.specs.History.{History, Page, Revision}

-- ---- pages

-- the pages with their numbers
abbrev pub numbered_pages : History → List (ℕ × Page)
numbered_pages h = enumerate_from 1 h.pages

-- the pages that exist: those whose last revision isn't a deletion
abbrev pub existing_pages : History → List (ℕ × Page)
existing_pages h = filter (λ page. not (page.1.current == 0)) (numbered_pages h)

-- how many pages exist
abbrev pub count_existing : History → ℕ
count_existing h = length (existing_pages h)

-- ---- revisions

-- the revisions with their numbers
abbrev pub numbered_revisions : History → List (ℕ × Revision)
numbered_revisions h = enumerate_from 1 h.revisions

abbrev pub is_below : ℕ → ℕ × Revision → Bool
is_below number revision = nat_lt revision.0 number

abbrev pub is_of_page : ℕ → ℕ × Revision → Bool
is_of_page page revision = revision.1.page == page

-- the revisions with numbers below this one, the newest first, at most so many
abbrev pub changes_below : History → ℕ → ℕ → List (ℕ × Revision)
changes_below h below most = take most (reverse (filter (is_below below) (numbered_revisions h)))

-- the revisions of one page, deletions among them, with numbers below this one, the newest first, at most so many
abbrev pub page_revisions_below : History → ℕ → ℕ → ℕ → List (ℕ × Revision)
page_revisions_below h page below most =
    take most (reverse (filter (λ revision. is_of_page page revision && is_below below revision) (numbered_revisions h)))

-- the number of the newest revision of a page, deletions among them, that is below this number
abbrev pub newest_below : History → ℕ → ℕ → Option ℕ
newest_below h page below =
    option_map (λ revision. revision.0)
    (last_or None (filter (λ revision. is_of_page page revision && is_below below revision) (numbered_revisions h)))
