-- Which pages have stored rows that aren't those of a new expansion, and what the commands print (own).
use Rattle.std.specs.Prelude.{ℕ, Bool, ◌&&◌, not, List, ◌∷◌, [], ◌++◌, length, filter, flat_map, map, codes}
use Rattle.std.specs.Cmp.Lexicographic.{pointwise}
use Rattle.std.specs.Fmt.{decimal}
use Rattle.std.specs.Option.{option_eq}
use Rattle.wk_text_rules.specs.Titles.{PageTitle, shown, title_eq}
use Rattle.wk_page_rules.specs.History.{Page}
use Rattle.wk_page_rules.specs.PageRows.{PageRows}
use Rattle.wk_view_rules.specs.Rows.{rows}
use Rattle.wk_wiki_rules.specs.States.{State, stored_at, world_of}
use Rattle.wk_wiki_rules.specs.Names.{member_eq}
use Rattle.wk_wiki_rules.specs.Revisions.{count_existing, numbered_pages}

-- the same rows, in the same order
abbrev pub same_rows : PageRows → PageRows → Bool
same_rows a b =
    pointwise title_eq a.templates b.templates
    && pointwise title_eq a.exists b.exists
    && pointwise title_eq a.links b.links
    && pointwise member_eq a.members b.members
    && option_eq title_eq a.redirect b.redirect

-- what is stored of the page with this number isn't what it has in the present world
abbrev pub differs : State → ℕ × Page → Bool
differs state (number, page) = not (same_rows (stored_at state number) (rows (world_of state) page.title))

-- the titles of the pages that differ, in the order of the pages
abbrev pub differing : State → List PageTitle
differing state = map (λ page. page.1.title) (filter (differs state) (numbered_pages state.history))

-- ---- what is printed

abbrev pub differ_line : PageTitle → List ℕ
differ_line title = codes "differ " ++ shown title ++ 10 ∷ []

-- a line for each page that differs, and then how many pages exist and how many differ
abbrev pub check_text : State → List ℕ
check_text state =
    flat_map differ_line (differing state)
    ++ codes "pages " ++ decimal (count_existing state.history)
    ++ codes " differ " ++ decimal (length (differing state)) ++ 10 ∷ []

-- where no job is left
abbrev pub jobs_text : List ℕ
jobs_text = codes "jobs 0\n"

-- how many pages exist, how many revisions there are, and how many pages differ, where no job is left
abbrev pub gen_text : State → List ℕ
gen_text state =
    codes "pages " ++ decimal (count_existing state.history)
    ++ codes " revisions " ++ decimal (length state.history.revisions)
    ++ codes " jobs 0 differ " ++ decimal (length (differing state)) ++ 10 ∷ []
