-- Titles among others.
use Rattle.std.specs.Prelude.{◌≡◌, ℕ, Bool, true, List}
use Rattle.std.specs.List.{list_any}
use Rattle.wk_text_rules.specs.Titles.{PageTitle, is_normal, title_eq}
use Rattle.wk_table_rules.specs.Rows.{PageColumns, JobColumns}
use Rattle.wk_table_rules.specs.GoodStore.{stands_already}

-- the title is one of these
abbrev pub is_among : PageTitle → List PageTitle → Bool
is_among title titles = list_any (λ other. title_eq other title) titles

-- these are the titles of the pages, in any order
abbrev pub IsTitlesOf : List PageTitle → List PageColumns → Type 0
IsTitlesOf titles pages = (title : PageTitle) → is_among title titles ≡ list_any (λ page. title_eq page.page_title title) pages

-- these are the titles of the jobs of one kind, in any order
abbrev pub IsTitlesOfJobs : List PageTitle → List ℕ → List JobColumns → Type 0
IsTitlesOfJobs titles cmd jobs = (title : PageTitle) → is_among title titles ≡ stands_already jobs cmd title

-- each of these titles is one that a text can name
abbrev pub AreNormal : List PageTitle → Type 0
AreNormal titles = (title : PageTitle) → is_among title titles ≡ true → is_normal title ≡ true
