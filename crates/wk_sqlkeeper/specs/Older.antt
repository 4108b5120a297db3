-- Stores that lack the table redirect, as those of version 1 may, and the databases whose tables are known.
use Rattle.std.specs.Prelude.{◌≡◌, ◌⊎◌, ℕ, Bool, false, List, [], bytes_eq, IsTrue}
use Rattle.sqlite_value.specs.declared.value.Value.{Value}
use Rattle.sqlite_value.specs.declared.value.Value.TheVariants.{Null, Int, Real, Text, Blob}
use Rattle.sqlite_value.specs.Order.{column}
use Rattle.sqlite_trees.specs.Tree.{Trees}
use Rattle.sqlite.specs.Schema.{Schema}
use Rattle.sqlite.specs.State.{State}
use Rattle.wk_table_rules.specs.Rows.{StoreTables}
use Rattle.wk_sqltables.specs.Entries.{page_values, revision_values, link_values, member_values, job_values}
use Rattle.wk_sqltables.specs.Held.{AreKeyed, AreListed, IsVersion, link_cmp, member_cmp}
use Rattle.wk_sqltables.specs.StoreSchema.{no_schema, store_schema}
use Rattle.wk_sqlkeeper.specs.Making.{schema_8}

-- trees of the schema without redirect hold these tables, in which no page redirects
pub record HoldOlder (trees : Trees) (tables : StoreTables) : Type 0 where
  pub pages : AreKeyed page_values (trees 0) tables.pages
  pub revisions : AreKeyed revision_values (trees 2) tables.revisions
  pub pagelinks : AreListed link_values link_cmp (trees 3) tables.pagelinks
  pub templatelinks : AreListed link_values link_cmp (trees 5) tables.templatelinks
  pub existlinks : AreListed link_values link_cmp (trees 7) tables.existlinks
  pub categorylinks : AreListed member_values member_cmp (trees 9) tables.categorylinks
  pub jobs : AreKeyed job_values (trees 11) tables.jobs
  pub version : IsVersion (trees 12) tables.version
  pub none : tables.redirects ≡ []

-- within a transaction a store without redirect holds these tables
pub record HoldsOlder (s : State) (tables : StoreTables) : Type 0 where
  pub inside : IsTrue s.in_transaction
  pub schema : s.now.schema ≡ schema_8
  pub tables_are : HoldOlder s.now.trees tables

-- between transactions a store without redirect that is open holds these tables
pub record KeepsOlder (s : State) (tables : StoreTables) : Type 0 where
  pub is_open : IsTrue s.is_open
  pub settled : s.now ≡ s.committed
  pub schema : s.now.schema ≡ schema_8
  pub tables_are : HoldOlder s.now.trees tables

-- ---- what is known of a database

-- it has tables of a wiki, which were made in their own order
abbrev pub IsMade : Schema → Type 0
IsMade schema = (schema ≡ schema_8) ⊎ (schema ≡ store_schema)

-- or none at all
abbrev pub IsKnown : Schema → Type 0
IsKnown schema = (schema ≡ no_schema) ⊎ IsMade schema

-- between transactions it shows what it showed before
pub record IsAsBefore (old new : State) : Type 0 where
  pub now_is : new.now ≡ old.now
  pub committed_is : new.committed ≡ old.committed

-- ---- the texts of its tables

abbrev pub is_words : List ℕ → Value → Bool
is_words text Null = false
is_words text (Int n) = false
is_words text (Real x) = false
is_words text (Text t) = bytes_eq text t
is_words text (Blob b) = false

-- the first column of a row of a query is this text
abbrev pub shows_text : List ℕ → List Value → Bool
shows_text text values = is_words text (column values 0)
