-- What is true of the fan jobs' order, and of lists that the job table can stand for.
use Rattle.std.specs.Prelude.{◌≡◌, ℕ, ◌<◌, ◌^◌, List, [], ◌∷◌, map, ⊤, Some}
use Rattle.std.specs.List.{AllByRecursion}
use Rattle.wk_text_rules.specs.Titles.{PageTitle}
use Rattle.wk_page_rules.specs.History.{page_number}
use Rattle.wk_table_rules.specs.Rows.{StoreTables}
use Rattle.wk_table_rules.specs.Stored.{history_of}
use Rattle.wk_wiki_rules.specs.Jobs.{JobLists}

-- each number is below all behind it
abbrev pub Rises : List ℕ → Type 0
Rises [] = ⊤
Rises (n ∷ ns) = AllByRecursion (λ m. n < m) ns × Rises ns

-- the fan jobs stand in the order of their numbers
abbrev pub IsInOrder : JobLists → Type 0
IsInOrder lists = Rises (map (λ job. job.number) lists.fans)

-- each page of a refresh job is found by its title, and each cursor is a number of 64 bits
pub record CanStand (tables : StoreTables) (title_of : ℕ → PageTitle) (lists : JobLists) : Type 0 where
  pub found : AllByRecursion (λ job. page_number (history_of tables) (title_of job.page) ≡ Some job.page) lists.refreshes
  pub small : AllByRecursion (λ job. job.cursor < 2 ^ 64) lists.fans
