-- Pages whose stored link rows aren't those that they have in the present world.
use Rattle.std.specs.Prelude.{◌≡◌, ℕ, Bool, not, List, [], ◌∷◌, Some, if◌then◌else◌}
use Rattle.wk_text_rules.specs.Titles.{PageTitle}
use Rattle.wk_page_rules.specs.History.{Page}
use Rattle.wk_view_rules.specs.Rows.{rows}
use Rattle.wk_wiki_rules.specs.States.{State, page_at, stored_at, world_of}
use Rattle.wk_tool_rules.specs.Checks.{same_rows}

abbrev pub is_outdated : State → ℕ → PageTitle → Bool
is_outdated state page title = not (same_rows (stored_at state page) (rows (world_of state) title))

-- the page is there, and has this title
pub record IsPageTitled (state : State) (number : ℕ) (title : PageTitle) : Type 0 where
  pub page : Page
  pub there : page_at state.history number ≡ Some page
  pub titled : page.title ≡ title

-- the title alone, or nothing
abbrev pub title_if : Bool → PageTitle → List PageTitle
title_if wanted title = if wanted then title ∷ [] else []
