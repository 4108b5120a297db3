-- All link rows of a page.
use Rattle.std.proofs.Common.{◌≡◌, ℕ, ℤ, map, subst}
use Rattle.std.specs.Option.{option_to_list}
use Rattle.sqlite.specs.State.{State}
use Rattle.wk_page_rules.specs.PageRows.{PageRows}
use Rattle.wk_table_rules.specs.Rows.{StoreTables}
use Rattle.wk_table_rules.specs.Changes.{namespace_of, with_page_rows, with_rows_of, link_row, category_row, redirect_row}
use Rattle.wk_sqltables.specs.declared.links.LinkTable.TheVariants.{Pagelinks, Templatelinks, Existlinks}
use Rattle.wk_sqltables.specs.Held.{Holds}
use Rattle.wk_sqltables.specs.LinkTables.{SetsLinks}
use Rattle.wk_sqltables.specs.Members.{SetsMembers, SetsRedirect}
use Rattle.wk_sqltables.specs.Rows.{AreRising}

module _ (s1 s2 s3 s4 s5 s6 : State) (page : ℕ) (namespace : ℤ) (rows : PageRows) where
  abbrev rewritten : StoreTables → ℤ → StoreTables
  rewritten tables ns = record tables {
    pagelinks = with_rows_of (λ row. row.from) page tables.pagelinks (map (link_row page ns) rows.links);
    templatelinks = with_rows_of (λ row. row.from) page tables.templatelinks (map (link_row page ns) rows.templates);
    existlinks = with_rows_of (λ row. row.from) page tables.existlinks (map (link_row page ns) rows.exists);
    categorylinks = with_rows_of (λ row. row.cl_from) page tables.categorylinks (map (category_row page) rows.members);
    redirects = with_rows_of (λ row. row.rd_from) page tables.redirects (map (redirect_row page) (option_to_list rows.redirect));
  }

  pub sets_all : SetsLinks Pagelinks s1 s2 page namespace rows.links → SetsLinks Templatelinks s2 s3 page namespace rows.templates → SetsLinks Existlinks s3 s4 page namespace rows.exists
      → SetsMembers s4 s5 page rows.members → SetsRedirect s5 s6 page rows.redirect → AreRising rows → (tables : StoreTables) → Holds s1 tables → namespace ≡ namespace_of tables page
      → Holds s6 (with_page_rows tables page rows)
  sets_all links templates exists members redirect rising tables holds is =
      let one = links rising.links tables holds in
      let two = templates rising.templates _ one in
      let three = exists rising.exists _ two in
      let four = members rising.members _ three in
      let all : Holds s6 (rewritten tables namespace) = redirect _ four in
      subst (λ ns. Holds s6 (rewritten tables ns)) is all
