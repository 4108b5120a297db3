-- Rows whose titles are normal.
use Rattle.std.specs.Prelude.{◌≡◌, true, All, IfSome}
use Rattle.wk_text_rules.specs.Titles.{is_normal}
use Rattle.wk_page_rules.specs.PageRows.{Member, PageRows}

-- Each title in a page's rows is one that its shown form names.
pub record RowsHaveNormalTitles (rows : PageRows) : Type 0 where
  pub templates : All (λ title. is_normal title ≡ true) rows.templates
  pub exists : All (λ title. is_normal title ≡ true) rows.exists
  pub links : All (λ title. is_normal title ≡ true) rows.links
  pub members : All (λ (m : Member). is_normal m.category ≡ true) rows.members
  pub redirect : IfSome rows.redirect (λ title. is_normal title ≡ true)
