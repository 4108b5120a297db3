-- The members of a page in the table categorylinks, and its row in the table redirect.
use Rattle.std.specs.Prelude.{◌≡◌, ℕ, List, map, Option}
use Rattle.std.specs.Option.{option_to_list}
use Rattle.std.specs.declared.cmp.Ordering.{Ordering}
use Rattle.std.specs.declared.cmp.Ordering.TheVariants.{Less}
use Rattle.sqlite_trees.specs.Tree.{IsAscending}
use Rattle.sqlite.specs.State.{State}
use Rattle.wk_text_rules.specs.Titles.{PageTitle, title_cmp}
use Rattle.wk_page_rules.specs.PageRows.{Member}
use Rattle.wk_table_rules.specs.Rows.{StoreTables, category_title}
use Rattle.wk_table_rules.specs.Changes.{category_row, redirect_row, with_rows_of}
use Rattle.wk_sqltables.specs.Held.{Holds}

-- by the key of the category
abbrev pub category_cmp : Member → Member → Ordering
category_cmp a b = title_cmp (category_title a.category.key) (category_title b.category.key)

-- Where the categories rise, the rows of the page in the table are from now on those of the members, and the rest of the
-- tables stays.
abbrev pub SetsMembers : State → State → ℕ → List Member → Type 0
SetsMembers old new page members =
    IsAscending (λ a b. category_cmp a b ≡ Less) members → (tables : StoreTables) → Holds old tables
    → Holds new (record tables { categorylinks = with_rows_of (λ row. row.cl_from) page tables.categorylinks (map (category_row page) members) })

-- the row of the page in the table is from now on that of the redirect, if there is one, and the rest of the tables stays
abbrev pub SetsRedirect : State → State → ℕ → Option PageTitle → Type 0
SetsRedirect old new page redirect =
    (tables : StoreTables) → Holds old tables
    → Holds new (record tables { redirects = with_rows_of (λ row. row.rd_from) page tables.redirects (map (redirect_row page) (option_to_list redirect)) })
