-- Lists in the order of titles.
use Rattle.std.specs.Prelude.{◌≡◌, ℕ, ◌<◌, Bool, true, false, List, length, slice_index_or, Option, None, Some}
use Rattle.std.specs.List.{AllPairs}
use Rattle.std.specs.declared.cmp.Ordering.TheVariants.{Less}
use Rattle.wk_text_rules.specs.Titles.{PageTitle, title_cmp, title_eq}
use Rattle.wk_page_rules.specs.PageRows.{PageRows}

-- each item's title stands before those of the items behind it
abbrev pub IsInOrder : {X : Type 0} → (X → PageTitle) → List X → Type 0
IsInOrder title items = AllPairs (λ a b. title_cmp (title a) (title b) ≡ Less) items

-- an item with the title stands at this place, if at all, and at none where no place is given
abbrev pub IsOnlyPlace : {X : Type 0} → (X → PageTitle) → PageTitle → List X → Option ℕ → Type 0
IsOnlyPlace {X} title t items None = (k : ℕ) (d : X) → k < length items → title_eq t (title (slice_index_or items k d)) ≡ false
IsOnlyPlace {X} title t items (Some place) =
    (place < length items) × ((k : ℕ) (d : X) → k < length items → (k ≡ place → ⊥) → title_eq t (title (slice_index_or items k d)) ≡ false)

-- which lists of the rows are known to be in order, the members by their categories
pub record AreInOrder (templates exists links members : Bool) (rows : PageRows) : Type 0 where
  pub by_templates : templates ≡ true → IsInOrder (λ t. t) rows.templates
  pub by_exists : exists ≡ true → IsInOrder (λ t. t) rows.exists
  pub by_links : links ≡ true → IsInOrder (λ t. t) rows.links
  pub by_members : members ≡ true → IsInOrder (λ m. m.category) rows.members
