-- The members of a category, by what is stored (MediaWiki's API:Categorymembers, which sorts by sort key; that pages with
-- one sort key stand in the order of their numbers is own).
use Rattle.std.specs.Prelude.{ℕ, Bool, List, [], ◌∷◌, map, filter, flat_map, fold, take, drop, if◌then◌else◌}
use Rattle.std.specs.List.{enumerate_from}
use Rattle.std.specs.Cmp.Lexicographic.{slice_cmp}
use Rattle.std.specs.Ordering.{is_lt, nat_cmp, ordering_then}
use Rattle.wk_text_rules.specs.Titles.{PageTitle, title_eq}
use Rattle.wk_page_rules.specs.PageRows.{PageRows}

-- a page in a category
pub record MemberPage : Type 0 where
  -- what the page is sorted by in the category
  pub sortkey : List ℕ
  pub page : ℕ
  -- what the page itself asks to be sorted by, empty where it doesn't
  pub prefix : List ℕ

-- the page's entries in the category; one, where its rows have each category once
abbrev pub members_on : PageTitle → ℕ × PageRows → List MemberPage
members_on category (page, rows) =
    map (λ member. record { sortkey = member.sortkey; page = page; prefix = member.prefix })
    (filter (λ member. title_eq member.category category) rows.members)

-- the first stands before the second: by the bytes of the sort key, then by the number of the page
abbrev pub member_lt : MemberPage → MemberPage → Bool
member_lt a b = is_lt (ordering_then (slice_cmp nat_cmp a.sortkey b.sortkey) (nat_cmp a.page b.page))

abbrev pub member_placed : List MemberPage → MemberPage → List MemberPage
member_placed [] new = new ∷ []
member_placed (member ∷ members) new =
    let later = member_placed members new in if member_lt new member then new ∷ member ∷ members else member ∷ later

-- all members of a category, by sort key and then by page
unfoldable pub category_members : List PageRows → PageTitle → List MemberPage
category_members stored category = fold member_placed [] (flat_map (members_on category) (enumerate_from 1 stored))

-- those behind the first so many, at most so many
abbrev pub members_behind : List PageRows → PageTitle → ℕ → ℕ → List MemberPage
members_behind stored category passed most = take most (drop passed (category_members stored category))
