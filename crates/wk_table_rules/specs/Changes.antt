-- What a change does to the tables, and when it fits them (own). A change is a list of edits, made in order.
use Rattle.std.specs.Prelude.{ℕ, ℤ, pos, Bool, true, ◌&&◌, ◌||◌, ◌==◌, not, nat_lt, List, [], ◌∷◌, ◌++◌, map, filter, find, fold, position, slice_set, remove, Some, None, unwrap_or, option_map}
use Rattle.std.specs.List.{insert_slice, list_all, list_any, position_or_len}
use Rattle.std.specs.Option.{option_to_list}
use Rattle.wk_text_rules.specs.Titles.{PageTitle}
use Rattle.wk_page_rules.specs.PageRows.{Member, PageRows}
use Rattle.wk_table_rules.specs.Rows.{PageColumns, RevisionColumns, LinkColumns, CategoryColumns, RedirectColumns, JobColumns, StoreTables}

-- ---- edits

pub data TableEdit : Type 0 where
  add_revision : RevisionColumns → TableEdit
  set_page : PageColumns → TableEdit
  -- the number of a page, and the link rows that it has from now on
  set_rows : ℕ → PageRows → TableEdit
  add_job : JobColumns → TableEdit
  set_job : JobColumns → TableEdit
  -- the number of a job
  drop_job : ℕ → TableEdit
  set_version : ℕ → TableEdit

abbrev pub has_page : StoreTables → ℕ → Bool
has_page tables id = list_any (λ row. row.page_id == id) tables.pages

abbrev pub has_job : StoreTables → ℕ → Bool
has_job tables id = list_any (λ row. row.job_id == id) tables.jobs

-- the namespace of the page's title, main where there is no such page
abbrev pub namespace_of : StoreTables → ℕ → ℤ
namespace_of tables id =
    unwrap_or (option_map (λ row. row.page_title.ns) (find (λ row. row.page_id == id) tables.pages)) (pos 0)

-- the rows, with this one in the place of the first of its page, or at the end where the page has none
abbrev pub with_page : List PageColumns → PageColumns → List PageColumns
with_page rows new = elim (position (λ row. row.page_id == new.page_id) rows) [
  | None ↦ rows ++ new ∷ []
  | Some place ↦ slice_set rows place new
]

-- the rows, with this one in the place of the first of its number
abbrev pub with_job : List JobColumns → JobColumns → List JobColumns
with_job rows new = elim (position (λ row. row.job_id == new.job_id) rows) [
  | None ↦ rows
  | Some place ↦ slice_set rows place new
]

-- the rows without the first of this number
abbrev pub without_job : List JobColumns → ℕ → List JobColumns
without_job rows id = elim (position (λ row. row.job_id == id) rows) [
  | None ↦ rows
  | Some place ↦ remove rows place
]

-- The rows, with these as all rows of the page: the others keep their order, and these stand before the first row
-- of a higher page. So a list in the order of its pages stays so.
abbrev pub with_rows_of : {Row : Type 0} → (Row → ℕ) → ℕ → List Row → List Row → List Row
with_rows_of from page rows new =
    let others = filter (λ row. not (from row == page)) rows in
    insert_slice others (position_or_len (λ row. nat_lt page (from row)) others) new

abbrev pub link_row : ℕ → ℤ → PageTitle → LinkColumns
link_row page namespace title = record { from = page; from_namespace = namespace; target = title }

abbrev pub category_row : ℕ → Member → CategoryColumns
category_row page member = record {
  cl_from = page;
  cl_to = member.category.key;
  cl_sortkey = member.sortkey;
  cl_sortkey_prefix = member.prefix;
}

abbrev pub redirect_row : ℕ → PageTitle → RedirectColumns
redirect_row page title = record { rd_from = page; rd_title = title }

-- the link tables, where the page has these link rows from now on
abbrev pub with_page_rows : StoreTables → ℕ → PageRows → StoreTables
with_page_rows tables page rows =
    let row = link_row page (namespace_of tables page) in
    record tables {
      pagelinks = with_rows_of (λ row. row.from) page tables.pagelinks (map row rows.links);
      templatelinks = with_rows_of (λ row. row.from) page tables.templatelinks (map row rows.templates);
      existlinks = with_rows_of (λ row. row.from) page tables.existlinks (map row rows.exists);
      categorylinks = with_rows_of (λ row. row.cl_from) page tables.categorylinks (map (category_row page) rows.members);
      redirects = with_rows_of (λ row. row.rd_from) page tables.redirects (map (redirect_row page) (option_to_list rows.redirect));
    }

-- ---- what a change gives

abbrev pub edited : StoreTables → TableEdit → StoreTables
edited tables (add_revision row) = record tables { revisions = tables.revisions ++ row ∷ [] }
edited tables (set_page row) = record tables { pages = with_page tables.pages row }
edited tables (set_rows page rows) = with_page_rows tables page rows
edited tables (add_job row) = record tables { jobs = tables.jobs ++ row ∷ [] }
edited tables (set_job row) = record tables { jobs = with_job tables.jobs row }
edited tables (drop_job id) = record tables { jobs = without_job tables.jobs id }
edited tables (set_version version) = record tables { version = version }

-- the edits one after the other
abbrev pub applied : StoreTables → List TableEdit → StoreTables
applied tables change = fold edited tables change

-- ---- when a change fits

-- A row that is appended has a number above all those of its list, and what is changed is there.
abbrev pub edit_fits : StoreTables → TableEdit → Bool
edit_fits tables (add_revision new) = list_all (λ row. nat_lt row.rev_id new.rev_id) tables.revisions
edit_fits tables (set_page new) = has_page tables new.page_id || list_all (λ row. nat_lt row.page_id new.page_id) tables.pages
edit_fits tables (set_rows page rows) = has_page tables page
edit_fits tables (add_job new) = list_all (λ row. nat_lt row.job_id new.job_id) tables.jobs
edit_fits tables (set_job new) = has_job tables new.job_id
edit_fits tables (drop_job id) = has_job tables id
edit_fits tables (set_version version) = true

-- each edit fits at its turn
abbrev pub fits : StoreTables → List TableEdit → Bool
fits tables [] = true
fits tables (edit ∷ change) = edit_fits tables edit && fits (edited tables edit) change
