-- What laws of states ask of a state besides soundness (own).
use Rattle.std.specs.Prelude.{◌≡◌, ◌⊎◌, ◌≤◌, IsTrue, All, length, map, is_some}
use Rattle.std.specs.List.{IsDistinct}
use Rattle.wk_text_rules.specs.Titles.{title_eq}
use Rattle.wk_page_rules.specs.History.{text_of_revision}
use Rattle.wk_wiki_rules.specs.Jobs.{pages_of}
use Rattle.wk_wiki_rules.specs.States.{State}

-- Each page has a list of stored link rows, each refresh job is of a page, no two pages have one title, and each page is
-- missing or its current revision has a text.
pub record IsWellFormed (state : State) : Type 0 where
  pub stored : length state.stored ≡ length state.history.pages
  pub jobs : All (λ page. (1 ≤ page) × (page ≤ length state.history.pages)) (pages_of state.jobs)
  pub titles : IsDistinct title_eq (map (λ page. page.title) state.history.pages)
  pub texts : All (λ page. (page.current ≡ 0) ⊎ IsTrue (is_some (text_of_revision state.history page.current))) state.history.pages
