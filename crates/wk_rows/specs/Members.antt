-- The categories that a page is a member of, as the code has them.
use Rattle.std.specs.Prelude.{ℕ, List, ◌==◌, ◌≤◌, ◌++◌, ◌∷◌, length, fold, filter_map, Option, Some, None, if◌then◌else◌}
use Rattle.wk_links.specs.declared.found.Found.{Found}
use Rattle.wk_links.specs.declared.found.What.{What}
use Rattle.wk_links.specs.declared.found.What.TheVariants.{Page, Member, Nothing}
use Rattle.wk_text_rules.specs.Occurrences.{most_label}
use Rattle.wk_text_rules.specs.Titles.{PageTitle}
use Rattle.wk_page_rules.specs.PageRows as page_rows
use Rattle.wk_view_rules.specs.Rows as rule

-- a category, and the sort key and the prefix that are kept by it
abbrev pub kept_member : PageTitle × (List ℕ × List ℕ) → page_rows.Member
kept_member entry = record { category = entry.0; sortkey = entry.1.0; prefix = entry.1.1 }

-- the sort key of a page whose key with spaces is this
abbrev pub sortkey_by : List ℕ → List ℕ → List ℕ
sortkey_by key prefix = if length prefix == 0 then key else prefix ++ 10 ∷ key

-- what a link makes of the page a member of
abbrev pub membership_by : List ℕ → What → Option page_rows.Member
membership_by key (Page title) = None
membership_by key (Member category prefix) =
    Some (record { category = category; sortkey = sortkey_by key prefix; prefix = prefix })
membership_by key Nothing = None

abbrev pub members_by : List ℕ → List Found → List page_rows.Member
members_by key found = filter_map (λ (link : Found). membership_by key link.what) found

-- a member among members in the order of their categories
abbrev pub with_member : List page_rows.Member → page_rows.Member → List page_rows.Member
with_member ordered member = rule.put_in_order (λ (m : page_rows.Member). m.category) member ordered

abbrev pub with_members : List page_rows.Member → List page_rows.Member → List page_rows.Member
with_members ordered members = fold with_member ordered members

-- a prefix is no longer than a label
abbrev pub HasShortPrefix : What → Type 0
HasShortPrefix (Page title) = Unit {0}
HasShortPrefix (Member category prefix) = length prefix ≤ most_label
HasShortPrefix Nothing = Unit {0}
