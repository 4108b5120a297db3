-- What the tables of a store hold.
use Rattle.std.specs.Prelude.{◌≡◌, ◌≢◌, ℕ, ℤ, true, List, [], ◌∷◌, map, drop, codes, IsTrue}
use Rattle.std.specs.Fmt.{decimal}
use Rattle.std.specs.List.{AllByRecursion}
use Rattle.std.specs.declared.cmp.Ordering.{Ordering}
use Rattle.std.specs.declared.cmp.Ordering.TheVariants.{Less}
use Rattle.std.specs.Ordering.{nat_cmp, ordering_then}
use Rattle.sqlite_value.specs.declared.value.Value.TheVariants.{Int, Text}
use Rattle.sqlite_value.specs.Order.{Row}
use Rattle.sqlite_trees.specs.Tree.{Trees, IsTable, IsAscending, rowid}
use Rattle.sqlite_trees.specs.View.{is_int}
use Rattle.sqlite_keyed.specs.Lists.{sort_by}
use Rattle.sqlite.specs.State.{State}
use Rattle.wk_text_rules.specs.Titles.{title_cmp}
use Rattle.wk_table_rules.specs.Rows.{LinkColumns, CategoryColumns, StoreTables, category_title}
use Rattle.wk_table_rules.specs.Changes.{TableEdit, edited, edit_fits}
use Rattle.wk_sqltables.specs.StoreSchema.{store_schema}
use Rattle.wk_sqltables.specs.Entries.{entry, page_values, revision_values, link_values, member_values, redirect_values, job_values}

-- the rows of a table whose first column is the row number: these, in the order of their numbers
pub record AreKeyed {X : Type 0} (values : X → Row) (rows : List Row) (items : List X) : Type 0 where
  pub rows_are : rows ≡ map (λ x. entry (values x)) items
  pub rise : IsTable rows

-- the rows of a table whose row numbers the database chose: these, in the order of those numbers
pub record AreStored {X : Type 0} (values : X → Row) (rows : List Row) (items : List X) : Type 0 where
  pub rows_are : map (drop 1) rows ≡ map values items
  pub rise : IsTable rows
  pub numbered : AllByRecursion (λ row. is_int (rowid row) ≡ true) rows

-- such rows in an order of their own, in which no two are equal
pub record AreListed {X : Type 0} (values : X → Row) (cmp : X → X → Ordering) (rows : List Row) (items : List X) : Type 0 where
  pub stored : List X
  pub stored_are : AreStored values rows stored
  pub items_are : items ≡ sort_by cmp stored
  pub apart : IsAscending (λ a b. cmp a b ≡ Less) items

-- the one row of the table site, with the version
pub record IsVersion (rows : List Row) (version : ℕ) : Type 0 where
  pub number : ℤ
  pub rows_are : rows ≡ (Int number ∷ Text (codes "version") ∷ Text (decimal version) ∷ []) ∷ []

-- by the page, and then by the title that is linked to
abbrev pub link_cmp : LinkColumns → LinkColumns → Ordering
link_cmp a b = ordering_then (nat_cmp a.from b.from) (title_cmp a.target b.target)

-- by the page, and then by the category
abbrev pub member_cmp : CategoryColumns → CategoryColumns → Ordering
member_cmp a b = ordering_then (nat_cmp a.cl_from b.cl_from) (title_cmp (category_title a.cl_to) (category_title b.cl_to))

-- trees of `store_schema` hold these tables
pub record HoldTables (trees : Trees) (tables : StoreTables) : Type 0 where
  pub pages : AreKeyed page_values (trees 0) tables.pages
  pub revisions : AreKeyed revision_values (trees 2) tables.revisions
  pub pagelinks : AreListed link_values link_cmp (trees 3) tables.pagelinks
  pub templatelinks : AreListed link_values link_cmp (trees 5) tables.templatelinks
  pub existlinks : AreListed link_values link_cmp (trees 7) tables.existlinks
  pub categorylinks : AreListed member_values member_cmp (trees 9) tables.categorylinks
  pub jobs : AreKeyed job_values (trees 11) tables.jobs
  pub version : IsVersion (trees 12) tables.version
  pub redirects : AreKeyed redirect_values (trees 14) tables.redirects

-- a transaction is open, and the tables are those of `store_schema`
pub record IsInStore (s : State) : Type 0 where
  pub inside : IsTrue s.in_transaction
  pub schema : s.now.schema ≡ store_schema

-- within a transaction a store holds these tables
pub record Holds (s : State) (tables : StoreTables) : Type 0 where
  pub inside : IsTrue s.in_transaction
  pub schema : s.now.schema ≡ store_schema
  pub tables_are : HoldTables s.now.trees tables

-- each tree of a table but this one is as it was
abbrev pub KeepsBut : ℕ → Trees → Trees → Type 0
KeepsBut tree db next = AllByRecursion (λ t. t.tree ≢ tree → next t.tree ≡ db t.tree) store_schema.tables

-- whatever rows the table of this tree had, it now has what the change makes of them, and the other tables stay
pub record Rewrites {X : Type 0} (tree : ℕ) (values : X → Row) (change : List X → List X) (old new : State) (items : List X) : Type 0 where
  pub in_store : IsInStore new
  pub items_are : AreStored values (new.now.trees tree) (change items)
  pub others : KeepsBut tree old.now.trees new.now.trees

abbrev pub RewritesAll : {X : Type 0} → ℕ → (X → Row) → (List X → List X) → State → State → Type 0
RewritesAll {X} tree values change old new = (items : List X) → IsInStore old → AreStored values (old.now.trees tree) items → Rewrites tree values change old new items

-- whatever tables the store held before, where the edit fits them it now holds what the edit makes of them
abbrev pub Makes : State → State → TableEdit → Type 0
Makes old new edit = (tables : StoreTables) → Holds old tables → edit_fits tables edit ≡ true → Holds new (edited tables edit)
