-- The tables that a database in memory keeps, out of its trees.
use Rattle.std.specs.Prelude.{◌<◌, ◌^◌, ◌⊎◌, ℕ, List, [], ◌∷◌, map, drop, slice_index_or}
use Rattle.std.specs.List.{AllByRecursion}
use Rattle.sqlite_value.specs.Order.{Row, column}
use Rattle.sqlite_trees.specs.Tree.{Trees}
use Rattle.sqlite_keyed.specs.Lists.{sort_by}
use Rattle.sqlite.specs.State.{State}
use Rattle.sqlite.specs.Steps.{IsEmpty}
use Rattle.wk_text_rules.specs.Decimal.{digits_value}
use Rattle.wk_table_rules.specs.Rows.{StoreTables}
use Rattle.wk_table_rules.specs.Changes.{TableEdit, add_revision, set_version}
use Rattle.wk_sqltables.specs.Held.{link_cmp, member_cmp}
use Rattle.wk_sqltables.specs.Edits.{Keeps}
use Rattle.wk_sqlkeeper.specs.Kept.{IsInRange}
use Rattle.wk_sqlkeeper.specs.Older.{KeepsOlder}
use Rattle.wk_sqlkeeper.specs.Decoded.{words_in, page_in, revision_in, link_in, member_in, redirect_in, job_in}

-- the columns of a row whose first one is its row number
abbrev pub columns_of : Row → Row
columns_of [] = []
columns_of (id ∷ []) = id ∷ []
columns_of (id ∷ second ∷ others) = id ∷ others

abbrev pub version_in : List Row → ℕ
version_in rows = digits_value (words_in (column (slice_index_or rows 0 []) 2))

-- the tables of a store whose trees are these
abbrev pub tables_in : Trees → StoreTables
tables_in trees = record {
  pages = map (λ row. page_in (columns_of row)) (trees 0);
  revisions = map (λ row. revision_in (columns_of row)) (trees 2);
  pagelinks = sort_by link_cmp (map link_in (map (drop 1) (trees 3)));
  templatelinks = sort_by link_cmp (map link_in (map (drop 1) (trees 5)));
  existlinks = sort_by link_cmp (map link_in (map (drop 1) (trees 7)));
  categorylinks = sort_by member_cmp (map member_in (map (drop 1) (trees 9)));
  redirects = map (λ row. redirect_in (columns_of row)) (trees 14);
  jobs = map (λ row. job_in (columns_of row)) (trees 11);
  version = version_in (trees 12);
}

-- the moment or the version that the edit puts is a number of 64 bits
abbrev pub IsEditInRange : TableEdit → Type 0
IsEditInRange (add_revision revision) = revision.rev_timestamp < 2 ^ 64
IsEditInRange (set_version version) = version < 2 ^ 64
IsEditInRange _ = Unit {0}

abbrev pub AreEditsInRange : List TableEdit → Type 0
AreEditsInRange = AllByRecursion IsEditInRange

-- it keeps tables, whose moments and version are numbers of 64 bits
pub record KeepsTables (s : State) : Type 0 where
  pub tables : StoreTables
  pub keeps : Keeps s tables
  pub range : IsInRange tables

-- it keeps such tables but for redirect
pub record KeepsOlderTables (s : State) : Type 0 where
  pub tables : StoreTables
  pub keeps : KeepsOlder s tables
  pub range : IsInRange tables

-- it is empty, or it is known which tables it keeps
abbrev pub IsTold : State → Type 0
IsTold s = IsEmpty s ⊎ (∥ KeepsTables s ∥₁ ⊎ ∥ KeepsOlderTables s ∥₁)
