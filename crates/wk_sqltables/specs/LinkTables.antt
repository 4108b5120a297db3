-- The link tables, which have one form: pagelinks, templatelinks and existlinks.
use Rattle.std.specs.Prelude.{◌≡◌, ℕ, ℤ, List, map, codes}
use Rattle.std.specs.declared.cmp.Ordering.TheVariants.{Less}
use Rattle.sqlite_trees.specs.Tree.{IsAscending}
use Rattle.sqlite.specs.Table.{Table}
use Rattle.sqlite.specs.State.{State}
use Rattle.wk_text_rules.specs.Titles.{PageTitle, title_cmp}
use Rattle.wk_table_rules.specs.Rows.{LinkColumns, StoreTables}
use Rattle.wk_table_rules.specs.Changes.{link_row, with_rows_of}
use Rattle.wk_sqltables.specs.Held.{Holds}
use Rattle.wk_sqltables.specs.StoreSchema.{pagelinks_table, templatelinks_table, existlinks_table}
use Rattle.wk_sqltables.specs.declared.links.LinkTable.{LinkTable}
use Rattle.wk_sqltables.specs.declared.links.LinkTable.TheVariants.{Pagelinks, Templatelinks, Existlinks}

abbrev pub table_of : LinkTable → Table
table_of Pagelinks = pagelinks_table
table_of Templatelinks = templatelinks_table
table_of Existlinks = existlinks_table

abbrev pub tree_of : LinkTable → ℕ
tree_of table = (table_of table).tree

-- its place among the tables
abbrev pub place_of : LinkTable → ℕ
place_of Pagelinks = 2
place_of Templatelinks = 3
place_of Existlinks = 4

abbrev pub links_of : LinkTable → StoreTables → List LinkColumns
links_of Pagelinks tables = tables.pagelinks
links_of Templatelinks tables = tables.templatelinks
links_of Existlinks tables = tables.existlinks

abbrev pub with_links : LinkTable → StoreTables → List LinkColumns → StoreTables
with_links Pagelinks tables links = record tables { pagelinks = links }
with_links Templatelinks tables links = record tables { templatelinks = links }
with_links Existlinks tables links = record tables { existlinks = links }

abbrev pub drop_links_text : LinkTable → List ℕ
drop_links_text Pagelinks = codes "DELETE FROM pagelinks WHERE pl_from = ?1"
drop_links_text Templatelinks = codes "DELETE FROM templatelinks WHERE tl_from = ?1"
drop_links_text Existlinks = codes "DELETE FROM existlinks WHERE el_from = ?1"

abbrev pub add_link_text : LinkTable → List ℕ
add_link_text Pagelinks = codes "INSERT INTO pagelinks (pl_from, pl_from_namespace, pl_namespace, pl_title) VALUES (?1, ?2, ?3, ?4)"
add_link_text Templatelinks = codes "INSERT INTO templatelinks (tl_from, tl_from_namespace, tl_namespace, tl_title) VALUES (?1, ?2, ?3, ?4)"
add_link_text Existlinks = codes "INSERT INTO existlinks (el_from, el_from_namespace, el_namespace, el_title) VALUES (?1, ?2, ?3, ?4)"

-- Where the titles rise, the rows of the page in the table are from now on those of the titles, and the rest of the tables
-- stays.
abbrev pub SetsLinks : LinkTable → State → State → ℕ → ℤ → List PageTitle → Type 0
SetsLinks table old new page namespace titles =
    IsAscending (λ a b. title_cmp a b ≡ Less) titles → (tables : StoreTables) → Holds old tables
    → Holds new (with_links table tables (with_rows_of (λ link. link.from) page (links_of table tables) (map (link_row page namespace) titles)))
