-- The rows that a page's text gives in a world (MediaWiki's Manual:Pagelinks table, Manual:Templatelinks table,
-- Manual:Categorylinks table and Manual:Redirect table; existence tests as rows, and the corners, are own).
use Rattle.std.specs.Prelude.{ℕ, ◌==◌, List, [], ◌∷◌, ◌++◌, length, filter_map, fold, Option, Some, None, if◌then◌else◌}
use Rattle.std.specs.declared.cmp.Ordering.TheVariants.{Less, Equal, Greater}
use Rattle.wk_text_rules.specs.Marked.{MarkedByte}
use Rattle.wk_text_rules.specs.Occurrences.{Occurrence, page, member, nothing, occurrences}
use Rattle.wk_text_rules.specs.Titles.{PageTitle, title_cmp, with_spaces}
use Rattle.wk_page_rules.specs.PageRows.{Member, PageRows, no_rows}
use Rattle.wk_view_rules.specs.Plans.{Outcome, done, need}
use Rattle.wk_view_rules.specs.Views.{Expanded, view, turned}
use Rattle.wk_view_rules.specs.Worlds.{World, Read, of_world, kind_eq}
use Rattle.wk_view_rules.specs.declared.Kind.{Kind}
use Rattle.wk_view_rules.specs.declared.Kind.TheVariants.{Include, Exists}

-- ---- lists in title order

-- an entry in its place among entries in title order; it takes the place of one with the same title
abbrev pub put_in_order : {X : Type 0} → (X → PageTitle) → X → List X → List X
put_in_order title_of x [] = x ∷ []
put_in_order title_of x (y ∷ ys) =
    let later = put_in_order title_of x ys in
    elim (title_cmp (title_of x) (title_of y)) [ Less ↦ x ∷ y ∷ ys | Equal ↦ x ∷ ys | Greater ↦ y ∷ later ]

-- the entries in title order, of those with one title the last
unfoldable pub in_title_order : {X : Type 0} → (X → PageTitle) → List X → List X
in_title_order title_of xs = fold (λ ordered x. put_in_order title_of x ordered) [] xs

abbrev pub titles_in_order : List PageTitle → List PageTitle
titles_in_order titles = in_title_order (λ title. title) titles

-- ---- the lists

-- the titles that were read with a kind
abbrev pub titles_read : Kind → List Read → List PageTitle
titles_read kind reads = filter_map (λ (r : Read). if kind_eq r.kind kind then Some r.title else None) reads

abbrev pub page_linked : Occurrence → Option PageTitle
page_linked occurrence = elim occurrence.link [ page title ↦ Some title | member title prefix ↦ None | nothing ↦ None ]

-- A member's sort key is the prefix, a newline and the page's key with spaces; or the key alone, with no prefix.
abbrev pub sortkey_of : PageTitle → List ℕ → List ℕ
sortkey_of of_page prefix =
    if length prefix == 0 then with_spaces of_page.key else prefix ++ 10 ∷ with_spaces of_page.key

abbrev pub membership : PageTitle → Occurrence → Option Member
membership of_page occurrence = elim occurrence.link [
  | page title ↦ None
  | member category prefix ↦ Some (record { category = category; sortkey = sortkey_of of_page prefix; prefix = prefix })
  | nothing ↦ None
]

-- the rows of a page, by what it expands to and by what was read
unfoldable pub rows_by : PageTitle → List MarkedByte → List Read → PageRows
rows_by of_page out reads = record {
  templates = titles_in_order (titles_read Include reads);
  exists = titles_in_order (titles_read Exists reads);
  links = titles_in_order (filter_map page_linked (occurrences out) ++ titles_read Exists reads);
  members = in_title_order (λ (m : Member). m.category) (filter_map (membership of_page) (occurrences out));
  redirect = turned of_page reads;
}

-- the rows by an expansion's end
abbrev pub rows_at : PageTitle → Outcome Expanded → PageRows
rows_at of_page (done expanded reads) = rows_by of_page expanded.out reads
rows_at of_page (need title kind reads) = no_rows

-- The rows of a page in a world. A world needs nothing, so they are those of an expansion that is done.
unfoldable pub rows : World → PageTitle → PageRows
rows pages of_page = rows_at of_page (view (of_world pages) of_page)
