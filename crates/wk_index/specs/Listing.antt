-- The members of a category in the order of the entries by which they are found.
use Rattle.std.specs.Prelude.{ℕ, ◌-◌, ◌&&◌, ◌++◌, List, [], map, filter, take, drop, length, None, Some, bytes_eq}
use Rattle.wk_text_rules.specs.Titles.{PageTitle, title_eq}
use Rattle.wk_page_rules.specs.PageRows.{PageRows}
use Rattle.wk_wiki_rules.specs.Members.{MemberPage}
use Rattle.wk_index.specs.Entries.{Entry}
use Rattle.wk_index.specs.Named.{rows_at}

-- the members of the entry's category by its sort key, among those that a page gives as triples of a category, a sort key
-- and a prefix
abbrev pub own_members : Entry → List (PageTitle × List ℕ × List ℕ) → List MemberPage
own_members entry rows =
    map (λ row. record { sortkey = row.1; page = entry.page; prefix = row.2 })
    (filter (λ row. title_eq row.0 entry.category && bytes_eq row.1 entry.sortkey) rows)

-- those that the rows of the entry's page have, none where there is no such page
abbrev pub page_members : List PageRows → Entry → List MemberPage
page_members stored entry = elim (rows_at stored entry.page) [
  | None ↦ []
  | Some rows ↦
      map (λ m. record { sortkey = m.sortkey; page = entry.page; prefix = m.prefix })
      (filter (λ m. title_eq m.category entry.category && bytes_eq m.sortkey entry.sortkey) rows.members)
]

-- What is listed in the end, where these are listed so far, so many are still to be passed over, and these are to come.
abbrev pub members_from : ℕ → List MemberPage → ℕ → List MemberPage → List MemberPage
members_from most listed left rest = listed ++ take (most - length listed) (drop left rest)
