-- Changes whose link rows are in order (own).
use Rattle.std.specs.Prelude.{Bool, true, ◌&&◌, List, [], ◌∷◌}
use Rattle.std.specs.List.{list_all}
use Rattle.std.specs.Ordering.{is_lt}
use Rattle.std.specs.declared.cmp.Ordering.{Ordering}
use Rattle.wk_text_rules.specs.Titles.{title_cmp}
use Rattle.wk_page_rules.specs.PageRows.{PageRows}
use Rattle.wk_table_rules.specs.Changes.{TableEdit, set_rows}
use Rattle.wk_sqltables.specs.Members.{category_cmp}

-- each is below all those behind it, so none comes twice
abbrev pub rises : {X : Type 0} → (X → X → Ordering) → List X → Bool
rises cmp [] = true
rises cmp (x ∷ xs) = list_all (λ y. is_lt (cmp x y)) xs && rises cmp xs

-- each list of a page's link rows rises by title
abbrev pub rows_rise : PageRows → Bool
rows_rise rows = rises title_cmp rows.templates && (rises title_cmp rows.exists && (rises title_cmp rows.links && rises category_cmp rows.members))

abbrev pub edit_rises : TableEdit → Bool
edit_rises (set_rows page rows) = rows_rise rows
edit_rises _ = true

-- all link rows of the change do
abbrev pub change_rises : List TableEdit → Bool
change_rises change = list_all edit_rises change
