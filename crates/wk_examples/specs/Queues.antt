-- The jobs and the link rows of the worked examples on jobs.
use Rattle.std.specs.Prelude.{ℕ, ◌==◌, List, [], ◌∷◌, Some, None, if◌then◌else◌}
use Rattle.wk_text_rules.specs.Titles.{PageTitle}
use Rattle.wk_page_rules.specs.declared.Reach.{Reach}
use Rattle.wk_page_rules.specs.declared.Reach.TheVariants.{Text, Both}
use Rattle.wk_page_rules.specs.PageRows.{PageRows, no_rows}
use Rattle.wk_wiki_rules.specs.Jobs.{RefreshEntry, FanEntry, JobLists}
use Rattle.wk_examples.specs.Stores.{title_a, title_b, title_t}

-- a queued job with this number, of this page
abbrev pub waiting : ℕ → ℕ → RefreshEntry
waiting number page = record { number = number; page = page; ticket = None }

-- a job that is claimed by a ticket
abbrev pub held : ℕ → ℕ → ℕ → RefreshEntry
held number page ticket = record { number = number; page = page; ticket = Some ticket }

abbrev pub fan : ℕ → PageTitle → Reach → ℕ → FanEntry
fan number title reach cursor = record { number = number; title = title; reach = reach; cursor = cursor }

-- the pages 7, 3 and 5 wait
abbrev pub three : JobLists
three = record { refreshes = waiting 1 7 ∷ waiting 2 3 ∷ waiting 3 5 ∷ []; fans = []; next = 4 }

abbrev pub two_fans : JobLists
two_fans = record three { fans = fan 4 title_t Text 3 ∷ fan 5 title_a Both 2 ∷ []; next = 6 }

-- link rows with one title
abbrev pub includes : PageTitle → PageRows
includes title = record no_rows { templates = title ∷ [] }

abbrev pub tests : PageTitle → PageRows
tests title = record no_rows { exists = title ∷ [] }

abbrev pub links_to : PageTitle → PageRows
links_to title = record no_rows { links = title ∷ [] }

-- four pages that name Template:T, the second by a test of its existence, and a page that links to B
abbrev pub stored : List PageRows
stored = includes title_t ∷ tests title_t ∷ includes title_t ∷ includes title_t ∷ links_to title_b ∷ []

abbrev pub users_of_t : List PageRows
users_of_t = includes title_t ∷ includes title_t ∷ includes title_t ∷ []

-- the titles of pages 1 and 2
abbrev pub title_of_page : ℕ → PageTitle
title_of_page page = if page == 1 then title_a else title_b

-- page 1 is being refreshed, and two titles are fanned
abbrev pub mixed : JobLists
mixed = record { refreshes = held 2 1 9 ∷ []; fans = fan 1 title_t Text 3 ∷ fan 4 title_b Both 0 ∷ []; next = 7 }
