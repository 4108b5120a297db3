-- Tables out of which the rows of each page can be taken, as those of a good store are.
use Rattle.std.specs.Prelude.{◌≡◌, ◌≤◌, true, length}
use Rattle.std.specs.List.{All}
use Rattle.std.specs.List.Sorted.{IsNonDecreasingBy}
use Rattle.wk_text_rules.specs.Titles.{is_normal}
use Rattle.wk_page_rules.specs.Verdict.{max_pages}
use Rattle.wk_table_rules.specs.Rows.{StoreTables, category_title}

-- there are at most so many pages as there can be; each title is normal; the rows are in the order of their pages
pub record AreLoadable (tables : StoreTables) : Type 0 where
  pub pages : length tables.pages ≤ max_pages
  pub links_normal : All (λ row. is_normal row.target ≡ true) tables.pagelinks
  pub templates_normal : All (λ row. is_normal row.target ≡ true) tables.templatelinks
  pub exists_normal : All (λ row. is_normal row.target ≡ true) tables.existlinks
  pub categories_normal : All (λ row. is_normal (category_title row.cl_to) ≡ true) tables.categorylinks
  pub redirects_normal : All (λ row. is_normal row.rd_title ≡ true) tables.redirects
  pub links_in_order : IsNonDecreasingBy (λ row. row.from) tables.pagelinks
  pub templates_in_order : IsNonDecreasingBy (λ row. row.from) tables.templatelinks
  pub exists_in_order : IsNonDecreasingBy (λ row. row.from) tables.existlinks
  pub categories_in_order : IsNonDecreasingBy (λ row. row.cl_from) tables.categorylinks
  pub redirects_in_order : IsNonDecreasingBy (λ row. row.rd_from) tables.redirects
