-- Sets of categories, sort keys in them and pages, by which the members of a category are found in their order.
use Rattle.std.specs.Prelude.{ℕ, Bool, ◌&&◌, ◌==◌, List, bytes_eq}
use Rattle.std.specs.List.{list_any}
use Rattle.std.specs.Cmp.Lexicographic.{slice_cmp}
use Rattle.std.specs.Ordering.{nat_cmp, ordering_then}
use Rattle.std.specs.declared.cmp.Ordering.{Ordering}
use Rattle.wk_text_rules.specs.Titles.{PageTitle, title_cmp, title_eq}
use Rattle.wk_page_rules.specs.PageRows.{PageRows}
use Rattle.wk_index.specs.Named.{FindsIn, FindsRowsIn, KeptIn, SparesIn}

-- a category, a sort key in it, and a page that is found by the two
pub record Entry : Type 0 where
  pub category : PageTitle
  pub sortkey : List ℕ
  pub page : ℕ

-- by the category, then by the sort key, then by the page
abbrev pub entry_cmp : Entry → Entry → Ordering
entry_cmp a b = ordering_then (title_cmp a.category b.category) (ordering_then (slice_cmp nat_cmp a.sortkey b.sortkey) (nat_cmp a.page b.page))

-- the rows have the category with the sort key
abbrev pub lists_entry : PageRows → PageTitle × List ℕ → Bool
lists_entry rows x = list_any (λ member. title_eq x.0 member.category && bytes_eq x.1 member.sortkey) rows.members

-- the page is found by the category and the sort key
abbrev pub has_entry : List Entry → PageTitle × List ℕ → ℕ → Bool
has_entry entries x page = list_any (λ entry. (title_eq entry.category x.0 && bytes_eq entry.sortkey x.1) && entry.page == page) entries

-- ---- what is found by them, as by titles

abbrev pub FindsEntries : List PageRows → List Entry → Type 0
FindsEntries = FindsIn lists_entry has_entry

abbrev pub FindsRowsEntries : PageRows → ℕ → List Entry → Type 0
FindsRowsEntries = FindsRowsIn lists_entry has_entry

abbrev pub KeptEntries : List Entry → List Entry → Type 0
KeptEntries = KeptIn has_entry

abbrev pub SparesEntries : PageRows → ℕ → List Entry → List Entry → Type 0
SparesEntries = SparesIn lists_entry has_entry
