-- What is reported of a wiki, by the link rows of all its pages and the pages that exist (MediaWiki's Special:WantedPages,
-- Special:LonelyPages, Special:UncategorizedPages, Special:DoubleRedirects and Special:MostTranscludedPages; that each is a list of
-- counts and titles, the order of its lines, and that orphaned and uncategorized pages are those of main alone, are own).
use Rattle.std.specs.Prelude.{ℕ, pos, Bool, ◌&&◌, ◌||◌, ◌==◌, not, List, [], ◌∷◌, ◌++◌, map, filter, filter_map, flat_map, fold, find, take, length, count_by, Option, is_some, is_none, option_map, option_and_then, if◌then◌else◌}
use Rattle.std.specs.Cmp.Lexicographic.{slice_cmp}
use Rattle.std.specs.List.{list_any}
use Rattle.std.specs.Ordering.{int_eq, is_lt, nat_cmp, ordering_then}
use Rattle.std.specs.declared.cmp.Ordering.{Ordering}
use Rattle.wk_text_rules.specs.Titles.{PageTitle, title_cmp, title_eq}
use Rattle.wk_page_rules.specs.PageRows.{PageRows}
use Rattle.wk_view_rules.specs.Worlds.{World}
use Rattle.wk_report_rules.specs.declared.Report.{Report}
use Rattle.wk_report_rules.specs.declared.Report.TheVariants.{Wanted, Orphaned, Uncategorized, DoubleRedirects, MostTemplates}

-- a page's title with its rows in the link tables
pub record TitledRows : Type 0 where
  pub title : PageTitle
  pub rows : PageRows

-- a line of a report
pub record Line : Type 0 where
  -- how many pages have the title, where they are counted; else 0
  pub count : ℕ
  pub titles : List PageTitle

-- ---- titles that pages have, and how many pages have each

-- the titles, each once
abbrev pub each_once : List PageTitle → List PageTitle
each_once titles = fold (λ seen title. if list_any (title_eq title) seen then seen else seen ++ title ∷ []) [] titles

-- how many pages have the title among these of their rows
abbrev pub pages_with : (PageRows → List PageTitle) → List TitledRows → PageTitle → ℕ
pages_with titles_of pages title = count_by (λ page. list_any (title_eq title) (titles_of page.rows)) pages

abbrev pub titles_with : (PageRows → List PageTitle) → List TitledRows → List PageTitle
titles_with titles_of pages = each_once (flat_map (λ page. titles_of page.rows) pages)

abbrev pub counted : (PageRows → List PageTitle) → List TitledRows → PageTitle → Line
counted titles_of pages title = record { count = pages_with titles_of pages title; titles = title ∷ [] }

-- the titles that are missing among those that some page links to, or tests for existence
abbrev pub wanted : World → List TitledRows → List Line
wanted world pages =
    map (counted (λ rows. rows.links) pages) (filter (λ title. is_none (world title)) (titles_with (λ rows. rows.links) pages))

-- the titles that some page includes
abbrev pub most_templates : List TitledRows → List Line
most_templates pages = map (counted (λ rows. rows.templates) pages) (titles_with (λ rows. rows.templates) pages)

-- ---- pages

-- a page of main that exists and redirects nowhere
abbrev pub is_article : World → TitledRows → Bool
is_article world page = int_eq page.title.ns (pos 0) && is_some (world page.title) && is_none page.rows.redirect

-- another page has the title among those that it links to or includes
abbrev pub is_named_elsewhere : List TitledRows → PageTitle → Bool
is_named_elsewhere pages title =
    list_any (λ page. not (title_eq page.title title) && (list_any (title_eq title) page.rows.links || list_any (title_eq title) page.rows.templates)) pages

abbrev pub is_orphaned : World → List TitledRows → TitledRows → Bool
is_orphaned world pages page = is_article world page && not (is_named_elsewhere pages page.title)

abbrev pub is_uncategorized : World → TitledRows → Bool
is_uncategorized world page = is_article world page && length page.rows.members == 0

abbrev pub uncounted : TitledRows → Line
uncounted page = record { count = 0; titles = page.title ∷ [] }

-- ---- redirects

-- the title that the rows of the page of this title redirect to
abbrev pub redirect_of : List TitledRows → PageTitle → Option PageTitle
redirect_of pages title = option_and_then (λ page. page.rows.redirect) (find (λ page. title_eq page.title title) pages)

-- a page, the title that its rows redirect to, and the one that the rows of that title's page redirect to
abbrev pub double_redirect : List TitledRows → TitledRows → Option Line
double_redirect pages page =
    option_and_then (λ second. option_map (λ third. record { count = 0; titles = page.title ∷ second ∷ third ∷ [] }) (redirect_of pages second))
    page.rows.redirect

-- ---- lines in order

-- the greater count first, and with one count by the titles
abbrev pub line_cmp : Line → Line → Ordering
line_cmp a b = ordering_then (nat_cmp b.count a.count) (slice_cmp title_cmp a.titles b.titles)

abbrev pub line_placed : List Line → Line → List Line
line_placed [] new = new ∷ []
line_placed (line ∷ lines) new =
    let later = line_placed lines new in if is_lt (line_cmp new line) then new ∷ line ∷ lines else line ∷ later

abbrev pub in_order : List Line → List Line
in_order lines = fold line_placed [] lines

-- what each report has a line of
abbrev pub reported : Report → World → List TitledRows → List Line
reported Wanted world pages = wanted world pages
reported Orphaned world pages = map uncounted (filter (is_orphaned world pages) pages)
reported Uncategorized world pages = map uncounted (filter (is_uncategorized world) pages)
reported DoubleRedirects world pages = filter_map (double_redirect pages) pages
reported MostTemplates world pages = most_templates pages

-- the lines of a report in their order, at most so many
unfoldable pub report_lines : Report → World → List TitledRows → ℕ → List Line
report_lines which world pages most = take most (in_order (reported which world pages))
