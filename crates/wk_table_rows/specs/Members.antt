-- A category that a page is a member of, as a triple.
use Rattle.std.specs.Prelude.{ℕ, List}
use Rattle.wk_text_rules.specs.Titles.{PageTitle}
use Rattle.wk_page_rules.specs.PageRows.{Member}

-- a category, the sort key in it, and the prefix
abbrev pub member_of : PageTitle × List ℕ × List ℕ → Member
member_of (category, sortkey, prefix) = record { category = category; sortkey = sortkey; prefix = prefix }
