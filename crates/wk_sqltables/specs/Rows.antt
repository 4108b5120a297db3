-- Link rows of a page whose lists rise.
use Rattle.std.specs.Prelude.{◌≡◌}
use Rattle.std.specs.declared.cmp.Ordering.TheVariants.{Less}
use Rattle.sqlite_trees.specs.Tree.{IsAscending}
use Rattle.wk_text_rules.specs.Titles.{title_cmp}
use Rattle.wk_page_rules.specs.PageRows.{PageRows}
use Rattle.wk_sqltables.specs.Members.{category_cmp}

-- each list is in the order of its titles, and has each title once
pub record AreRising (rows : PageRows) : Type 0 where
  pub templates : IsAscending (λ a b. title_cmp a b ≡ Less) rows.templates
  pub exists : IsAscending (λ a b. title_cmp a b ≡ Less) rows.exists
  pub links : IsAscending (λ a b. title_cmp a b ≡ Less) rows.links
  pub members : IsAscending (λ a b. category_cmp a b ≡ Less) rows.members
