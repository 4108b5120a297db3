-- The rows by which a page is found change in two halves (own): first the new ones are added to the old ones, and later
-- the old ones go that aren't among the new. So what can fail for want of memory comes before anything is lost.
use Rattle.std.specs.Prelude.{◌≡◌, ℕ, ◌-◌, Bool, true, ◌&&◌, not, List, ◌++◌, filter, slice_set, bytes_eq, is_some, All, IfSome, if◌then◌else◌}
use Rattle.std.specs.List.{list_any}
use Rattle.wk_text_rules.specs.Titles.{title_eq}
use Rattle.wk_page_rules.specs.PageRows.{Member, PageRows}

-- one category, with one sort key and one prefix
abbrev pub member_eq : Member → Member → Bool
member_eq a b = title_eq a.category b.category && bytes_eq a.sortkey b.sortkey && bytes_eq a.prefix b.prefix

-- the old entries, and behind them those of the new that aren't among the old
abbrev pub joined : {X : Type 0} → (X → X → Bool) → List X → List X → List X
joined same old new = old ++ filter (λ x. not (list_any (same x) old)) new

-- The rows of both: between the halves a page is found by the old ones and by the new. A category may stand twice, with
-- two sort keys.
abbrev pub admitted : PageRows → PageRows → PageRows
admitted old new = record {
  templates = joined title_eq old.templates new.templates;
  exists = joined title_eq old.exists new.exists;
  links = joined title_eq old.links new.links;
  members = joined member_eq old.members new.members;
  redirect = if is_some new.redirect then new.redirect else old.redirect;
}

-- the first rows are among the second
pub record AreAmong (new old : PageRows) : Type 0 where
  pub templates : All (λ title. list_any (title_eq title) old.templates ≡ true) new.templates
  pub exists : All (λ title. list_any (title_eq title) old.exists ≡ true) new.exists
  pub links : All (λ title. list_any (title_eq title) old.links ≡ true) new.links
  pub members : All (λ member. list_any (member_eq member) old.members ≡ true) new.members
  pub redirect : IfSome new.redirect (λ title. is_some old.redirect ≡ true)

-- the rows of the page with this number, among those of all pages
abbrev pub with_rows_at : List PageRows → ℕ → PageRows → List PageRows
with_rows_at stored page rows = slice_set stored (page - 1) rows
