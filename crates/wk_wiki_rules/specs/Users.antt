-- Which pages name a title (own; MediaWiki's Manual:Job queue has the pages of templatelinks refreshed).
use Rattle.std.specs.Prelude.{ℕ, Bool, ◌&&◌, nat_lt, List, map, filter, take}
use Rattle.std.specs.List.{enumerate_from, list_any}
use Rattle.wk_text_rules.specs.Titles.{PageTitle}
use Rattle.wk_page_rules.specs.PageRows.{PageRows, names}
use Rattle.wk_page_rules.specs.declared.Reach.{Reach}

-- some page's link rows name the title
abbrev pub some_page_names : List PageRows → PageTitle → Reach → Bool
some_page_names stored title reach = list_any (λ rows. names rows title reach) stored

-- The numbers above a number of the pages whose link rows name the title, rising, at most so many. The link rows are
-- given page by page, and pages are numbered from 1.
unfoldable pub users : List PageRows → PageTitle → Reach → ℕ → ℕ → List ℕ
users stored title reach above most =
    take most (map (λ page. page.0) (filter (λ page. nat_lt above page.0 && names page.1 title reach) (enumerate_from 1 stored)))
