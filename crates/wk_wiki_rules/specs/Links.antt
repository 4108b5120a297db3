-- The pages whose stored rows link to a title (MediaWiki's API:Backlinks). Those that include a title, or test whether it
-- exists, are the `users` of the rules of jobs (API:Embeddedin lists the first).
use Rattle.std.specs.Prelude.{ℕ, Bool, ◌&&◌, nat_lt, List, map, filter, take}
use Rattle.std.specs.List.{enumerate_from, list_any}
use Rattle.wk_text_rules.specs.Titles.{PageTitle, title_eq}
use Rattle.wk_page_rules.specs.PageRows.{PageRows}

-- the title is among those that the page links to
abbrev pub links_to : PageRows → PageTitle → Bool
links_to rows title = list_any (title_eq title) rows.links

-- The numbers above a number of the pages whose rows link to the title, rising, at most so many. The rows are given page
-- by page, and pages are numbered from 1. A page that is missing and not yet refreshed counts by its rows too.
unfoldable pub linking_pages : List PageRows → PageTitle → ℕ → ℕ → List ℕ
linking_pages stored title above most =
    take most (map (λ page. page.0) (filter (λ page. nat_lt above page.0 && links_to page.1 title) (enumerate_from 1 stored)))
