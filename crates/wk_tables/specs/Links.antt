-- What the link tables and the redirect table hold.
use Rattle.std.specs.Prelude.{◌≡◌, ℕ, ◌≤◌, List, [], map, Option, Some, IfSome}
use Rattle.wk_table_rules.specs.Rows.{PageColumns}
use Rattle.wk_tables.specs.LinkLists.{LinkLists}
use Rattle.wk_tables.specs.declared.links.Links.{Links}

abbrev pub lists_of : Links → LinkLists
lists_of links = record {
  pagelinks = links.pagelinks.rows;
  templatelinks = links.templatelinks.rows;
  existlinks = links.existlinks.rows;
  categorylinks = links.categorylinks.rows;
  redirects = links.redirects.rows;
}

-- there is room for so many pages, or rows of each table, more
abbrev pub HaveRoom : Links → ℕ → Type 0
HaveRoom links n =
    (n ≤ links.pagelinks.spare) × (n ≤ links.templatelinks.spare) × (n ≤ links.existlinks.spare) × (n ≤ links.categorylinks.spare) × (n ≤ links.redirects.spare)

-- the pages in whose order each table is kept, where it is kept by page
pub record PagesHeld : Type 0 where
  pub pagelinks : Option (List ℕ)
  pub templatelinks : Option (List ℕ)
  pub existlinks : Option (List ℕ)
  pub categorylinks : Option (List ℕ)
  pub redirects : Option (List ℕ)

abbrev pub pages_of : Links → PagesHeld
pages_of links = record {
  pagelinks = links.pagelinks.pages;
  templatelinks = links.templatelinks.pages;
  existlinks = links.existlinks.pages;
  categorylinks = links.categorylinks.pages;
  redirects = links.redirects.pages;
}

abbrev pub map_pages : (Option (List ℕ) → Option (List ℕ)) → PagesHeld → PagesHeld
map_pages f held = record {
  pagelinks = f held.pagelinks;
  templatelinks = f held.templatelinks;
  existlinks = f held.existlinks;
  categorylinks = f held.categorylinks;
  redirects = f held.redirects;
}

-- each table is kept by page, and there is no page
abbrev pub none_held : PagesHeld
none_held = record { pagelinks = Some []; templatelinks = Some []; existlinks = Some []; categorylinks = Some []; redirects = Some [] }

-- this holds of each table
abbrev pub EachPages : (Option (List ℕ) → Type 0) → PagesHeld → Type 0
EachPages P held = P held.pagelinks × P held.templatelinks × P held.existlinks × P held.categorylinks × P held.redirects

-- each table is kept by the pages of the table page, or by none
abbrev pub ArePagesOf : PagesHeld → List PageColumns → Type 0
ArePagesOf held pages = EachPages (λ numbers. IfSome numbers (λ numbers. numbers ≡ map (λ page. page.page_id) pages)) held
