-- The rows that the pages of a wiki have in the link tables and in the redirect table.
use Rattle.std.specs.Prelude.{List, ◌++◌, map}
use Rattle.std.specs.Option.{option_to_list}
use Rattle.wk_page_rules.specs.History.{History}
use Rattle.wk_page_rules.specs.PageRows.{PageRows}
use Rattle.wk_table_rules.specs.Changes.{category_row, redirect_row}
use Rattle.wk_tables.specs.LinkLists.{LinkLists}
use Rattle.wk_wiki_rules.specs.Tables.{link_rows, rows_of_pages}

-- the rows, and others behind them in each table
abbrev pub with_more : LinkLists → LinkLists → LinkLists
with_more rows more = record {
  pagelinks = rows.pagelinks ++ more.pagelinks;
  templatelinks = rows.templatelinks ++ more.templatelinks;
  existlinks = rows.existlinks ++ more.existlinks;
  categorylinks = rows.categorylinks ++ more.categorylinks;
  redirects = rows.redirects ++ more.redirects;
}

-- the rows of each page, in the order of the pages
abbrev pub lists_of_pages : History → List PageRows → LinkLists
lists_of_pages h stored = record {
  pagelinks = rows_of_pages (link_rows h (λ rows. rows.links)) stored;
  templatelinks = rows_of_pages (link_rows h (λ rows. rows.templates)) stored;
  existlinks = rows_of_pages (link_rows h (λ rows. rows.exists)) stored;
  categorylinks = rows_of_pages (λ page rows. map (category_row page) rows.members) stored;
  redirects = rows_of_pages (λ page rows. map (redirect_row page) (option_to_list rows.redirect)) stored;
}
