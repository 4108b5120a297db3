-- The rows of the link tables and the redirect table, and those of one page among them.
use Rattle.std.specs.Prelude.{ℕ, ℤ, List, [], map}
use Rattle.std.specs.Option.{option_to_list}
use Rattle.wk_page_rules.specs.PageRows.{PageRows}
use Rattle.wk_table_rules.specs.Rows.{LinkColumns, CategoryColumns, RedirectColumns}
use Rattle.wk_table_rules.specs.Changes.{with_rows_of, link_row, category_row, redirect_row}

pub record LinkLists : Type 0 where
  pub pagelinks : List LinkColumns
  pub templatelinks : List LinkColumns
  pub existlinks : List LinkColumns
  pub categorylinks : List CategoryColumns
  pub redirects : List RedirectColumns

-- no rows
abbrev pub no_lists : LinkLists
no_lists = record { pagelinks = []; templatelinks = []; existlinks = []; categorylinks = []; redirects = [] }

-- the rows that the lists of a page give, where its title is in this namespace
abbrev pub rows_of_lists : ℕ → ℤ → PageRows → LinkLists
rows_of_lists page namespace rows = record {
  pagelinks = map (link_row page namespace) rows.links;
  templatelinks = map (link_row page namespace) rows.templates;
  existlinks = map (link_row page namespace) rows.exists;
  categorylinks = map (category_row page) rows.members;
  redirects = map (redirect_row page) (option_to_list rows.redirect);
}

-- these as all rows of the page
abbrev pub with_rows_of_page : LinkLists → ℕ → LinkLists → LinkLists
with_rows_of_page rows page new = record {
  pagelinks = with_rows_of (λ row. row.from) page rows.pagelinks new.pagelinks;
  templatelinks = with_rows_of (λ row. row.from) page rows.templatelinks new.templatelinks;
  existlinks = with_rows_of (λ row. row.from) page rows.existlinks new.existlinks;
  categorylinks = with_rows_of (λ row. row.cl_from) page rows.categorylinks new.categorylinks;
  redirects = with_rows_of (λ row. row.rd_from) page rows.redirects new.redirects;
}
