-- The rows that a page has in the link tables (MediaWiki's Manual:Pagelinks table, Manual:Templatelinks table,
-- Manual:Categorylinks table and Manual:Redirect table; existence tests as rows are own), and the titles that they name.
use Rattle.std.specs.Prelude.{ℕ, Bool, ◌||◌, List, [], Option, None}
use Rattle.std.specs.List.{list_any}
use Rattle.wk_text_rules.specs.Titles.{PageTitle, title_eq}
use Rattle.wk_page_rules.specs.declared.Reach.{Reach}
use Rattle.wk_page_rules.specs.declared.Reach.TheVariants.{Text, Both}

-- a category that a page is a member of
pub record Member : Type 0 where
  pub category : PageTitle
  -- what the page is sorted by in the category
  pub sortkey : List ℕ
  -- what the page itself asks to be sorted by, empty where it doesn't
  pub prefix : List ℕ

-- A page's rows, in five lists. What a page's text gives, and what fits the tables, has each list in title order, and
-- each title once.
pub record PageRows : Type 0 where
  -- the titles that the page includes
  pub templates : List PageTitle
  -- the titles that the page tests for existence
  pub exists : List PageTitle
  -- the titles that the page links to, with those that it tests for existence
  pub links : List PageTitle
  -- the categories that the page is a member of
  pub members : List Member
  -- the title that the page redirects to
  pub redirect : Option PageTitle

-- a page without rows
abbrev pub no_rows : PageRows
no_rows = record { templates = []; exists = []; links = []; members = []; redirect = None }

-- Rows name a title where it is among the titles that the page includes, and under `Both` also where it is among those
-- that the page tests for existence.
abbrev pub names : PageRows → PageTitle → Reach → Bool
names rows title Text = list_any (title_eq title) rows.templates
names rows title Both = list_any (title_eq title) rows.templates || list_any (title_eq title) rows.exists
