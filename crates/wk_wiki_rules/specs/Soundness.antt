-- When link rows are sound: what is stored of each page is what its text gives now, or a job covers it (own).
use Rattle.std.specs.Prelude.{◌≡◌, ◌⊎◌, ℕ, IsTrue, Some}
use Rattle.wk_page_rules.specs.History.{Page}
use Rattle.wk_view_rules.specs.Rows.{rows}
use Rattle.wk_wiki_rules.specs.Covers.{is_covered}
use Rattle.wk_wiki_rules.specs.States.{State, page_at, stored_at, world_of}

-- some job covers the page with this number: its refresh job, queued or claimed, or a fan job whose title its stored
-- link rows name under the job's reach, and whose cursor is below the page
abbrev pub Covers : State → ℕ → Type 0
Covers state number = IsTrue (is_covered state.jobs number (stored_at state number))

-- the link rows that are stored of the page are those that it has in the present world
abbrev pub IsCurrent : State → ℕ → Page → Type 0
IsCurrent state number page = stored_at state number ≡ rows (world_of state) page.title

-- each page's link rows are current, or some job covers it
abbrev pub IsSound : State → Type 0
IsSound state = (number : ℕ) (page : Page) → page_at state.history number ≡ Some page → IsCurrent state number page ⊎ Covers state number
