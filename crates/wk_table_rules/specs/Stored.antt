-- What the tables of a store hold: the revisions and pages, and the link rows of each page.
use Rattle.std.specs.Prelude.{ℕ, ◌==◌, List, map, filter, find, Some, None, option_map, if◌then◌else◌}
use Rattle.wk_text_rules.specs.Titles.{PageTitle}
use Rattle.wk_page_rules.specs.History.{History, Page, Revision}
use Rattle.wk_page_rules.specs.PageRows.{Member, PageRows}
use Rattle.wk_table_rules.specs.Rows.{category_title, PageColumns, RevisionColumns, LinkColumns, CategoryColumns, StoreTables}

-- ---- the revisions and pages

abbrev pub revision_of_row : RevisionColumns → Revision
revision_of_row row = record {
  page = row.rev_page;
  parent = row.rev_parent_id;
  moment = row.rev_timestamp;
  text = if row.rev_gone then None else Some row.rev_text;
}

abbrev pub page_of_row : PageColumns → Page
page_of_row row = record { title = row.page_title; current = row.page_latest }

-- the revisions and pages that good tables stand for
abbrev pub history_of : StoreTables → History
history_of tables = record {
  revisions = map revision_of_row tables.revisions;
  pages = map page_of_row tables.pages;
}

-- ---- the link rows

-- the titles that the rows of one table name for a page, in the order of the rows
abbrev pub targets_of : ℕ → List LinkColumns → List PageTitle
targets_of page rows = map (λ row. row.target) (filter (λ row. row.from == page) rows)

abbrev pub member_of : CategoryColumns → Member
member_of row = record { category = category_title row.cl_to; sortkey = row.cl_sortkey; prefix = row.cl_sortkey_prefix }

-- the link rows of the page with this number
abbrev pub rows_of_page : StoreTables → ℕ → PageRows
rows_of_page tables page = record {
  templates = targets_of page tables.templatelinks;
  exists = targets_of page tables.existlinks;
  links = targets_of page tables.pagelinks;
  members = map member_of (filter (λ row. row.cl_from == page) tables.categorylinks);
  redirect = option_map (λ row. row.rd_title) (find (λ row. row.rd_from == page) tables.redirects);
}

-- the link rows of each page, in the order of the pages
abbrev pub stored_rows : StoreTables → List PageRows
stored_rows tables = map (λ page. rows_of_page tables page.page_id) tables.pages
