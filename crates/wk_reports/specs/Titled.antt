-- Titles of pages by their numbers.
use Rattle.std.specs.Prelude.{◌≡◌, ℕ, Some}
use Rattle.wk_text_rules.specs.Titles.{PageTitle}
use Rattle.wk_page_rules.specs.History.{Page}
use Rattle.wk_wiki_rules.specs.States.{State, page_at}

-- the page is there, and has this title
pub record IsPageTitled (state : State) (number : ℕ) (title : PageTitle) : Type 0 where
  pub page : Page
  pub there : page_at state.history number ≡ Some page
  pub titled : page.title ≡ title
