-- The titles of a page's rows are normal; and which titles a page can have.
use Rattle.std.proofs.Common.{◌≡◌, pos, Bool, true, false, not, Option, Some, None, refl, ap, ◌∙◌}
use Rattle.std.specs.Prelude.{IfSome}
use Rattle.std.proofs.lemmas.Bool.{and_from, and_parts, not-true}
use Rattle.std.proofs.lemmas.List.Elements.{All-weaker}
use Rattle.wk_text_rules.specs.Titles.{PageTitle, is_normal, is_page_title, is_virtual, normal, shown, title_eq}
use Rattle.wk_page_rules.specs.PageRows.{Member, PageRows}
use Rattle.wk_view_rules.specs.Rows.{rows}
use Rattle.wk_view_rules.specs.Worlds.{World}
use Rattle.wk_view_laws.specs.Titles.{IsCategoryTitle, IsPageTitle, RowsHavePageTitles}
use Rattle.wk_view_laws.proofs.OrderLemmas.{pages-rows}
use Rattle.wk_view_laws.proofs.PlanLemmas.{title_eq-same, title_eq-true}
use Rattle.wk_title_laws.specs.NormalTitles.{RowsHaveNormalTitles}
use Rattle.wk_title_laws.proofs.Law.{shown_names}

-- the title that is named is this one
abbrev is_title : PageTitle → Option PageTitle → Bool
is_title title found = elim found [ None ↦ false | Some named ↦ title_eq named title ]

-- a title that a page can have is normal
pub normal-page : (title : PageTitle) → IsPageTitle title → is_normal title ≡ true
normal-page title page = ap (is_title title) (shown_names page.text page.default_ns title page.known page.named) ∙ title_eq-same title

-- and it isn't virtual
pub page-title : (title : PageTitle) → IsPageTitle title → is_page_title title ≡ true
page-title title page = and_from (is_normal title) (not (is_virtual title)) (normal-page title page) (ap not page.real)

-- a title that passes the test is one that a page can have: its shown form names it
pub page-title-back : (title : PageTitle) → is_page_title title ≡ true → IsPageTitle title
page-title-back title is =
    let parts = and_parts (is_normal title) (not (is_virtual title)) is in
    record {
      text = shown title;
      default_ns = pos 0;
      known = refl;
      named = named-by (normal (shown title) (pos 0)) parts.0;
      real = not-true (is_virtual title) parts.1;
    }
  where
    named-by : (found : Option PageTitle) → is_title title found ≡ true → found ≡ Some title
    named-by None e = absurd (let none : false ≡ true = e in cc)
    named-by (Some named) e = ap (λ t. Some t) (title_eq-true named title e)

normal-redirect : (o : Option PageTitle) → IfSome o IsPageTitle → IfSome o (λ title. is_normal title ≡ true)
normal-redirect None page = tt
normal-redirect (Some title) page = normal-page title page

normal-titles : (r : PageRows) → RowsHavePageTitles r → RowsHaveNormalTitles r
normal-titles r pages =
    let normal_title : PageTitle → Type 0 = λ title. is_normal title ≡ true in
    record {
      templates = All-weaker IsPageTitle normal_title normal-page r.templates pages.templates;
      exists = All-weaker IsPageTitle normal_title normal-page r.exists pages.exists;
      links = All-weaker IsPageTitle normal_title normal-page r.links pages.links;
      members = All-weaker (λ (m : Member). IsCategoryTitle m.category) (λ (m : Member). is_normal m.category ≡ true) (λ m category. normal-page m.category category.0) r.members pages.members;
      redirect = normal-redirect r.redirect pages.redirect;
    }

pub normal-rows : (pages : World) (page : PageTitle) → RowsHaveNormalTitles (rows pages page)
normal-rows pages page = normal-titles (rows pages page) (pages-rows pages page)
