-- Titles that pages can have, and lists in title order.
use Rattle.std.specs.Prelude.{◌≡◌, ℤ, pos, true, false, List, ℕ, All, AllPairs, IfSome, Some}
use Rattle.std.specs.declared.cmp.Ordering.TheVariants.{Less}
use Rattle.wk_text_rules.specs.Titles.{PageTitle, normal, is_namespace, is_virtual, title_cmp}
use Rattle.wk_page_rules.specs.PageRows.{Member, PageRows}

-- A text names the title, in a namespace of the table, and a page can have it.
pub record IsPageTitle (title : PageTitle) : Type 0 where
  pub text : List ℕ
  pub default_ns : ℤ
  pub known : is_namespace default_ns ≡ true
  pub named : normal text default_ns ≡ Some title
  pub real : is_virtual title ≡ false

-- each entry's title comes before those of all later ones, so no title stands twice
abbrev pub IsInTitleOrder : {X : Type 0} → (X → PageTitle) → List X → Type 0
IsInTitleOrder title_of xs = AllPairs (λ a b. title_cmp (title_of a) (title_of b) ≡ Less) xs

-- Each list of a page's rows is in title order, and has no title twice.
pub record RowsAreInOrder (rows : PageRows) : Type 0 where
  pub templates : IsInTitleOrder (λ title. title) rows.templates
  pub exists : IsInTitleOrder (λ title. title) rows.exists
  pub links : IsInTitleOrder (λ title. title) rows.links
  pub members : IsInTitleOrder (λ (m : Member). m.category) rows.members

-- a category's title
abbrev pub IsCategoryTitle : PageTitle → Type 0
IsCategoryTitle title = IsPageTitle title × (title.ns ≡ pos 14)

-- Each title in a page's rows is one that a page can have, and each category's is in the namespace of categories.
pub record RowsHavePageTitles (rows : PageRows) : Type 0 where
  pub templates : All IsPageTitle rows.templates
  pub exists : All IsPageTitle rows.exists
  pub links : All IsPageTitle rows.links
  pub members : All (λ (m : Member). IsCategoryTitle m.category) rows.members
  pub redirect : IfSome rows.redirect IsPageTitle
