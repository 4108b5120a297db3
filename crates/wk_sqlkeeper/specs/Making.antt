-- How the tables of a new store are made in a database that has none, one after the other.
use Rattle.std.specs.Prelude.{◌≡◌, ℕ, List, [], codes, Result, Ok, Err, IsTrue}
use Rattle.std.specs.List.{AllByRecursion}
use Rattle.sqlite_trees.specs.Objects.{catalog_tree}
use Rattle.sqlite.specs.Schema.{Schema}
use Rattle.sqlite.specs.declared.error.Error.{Error}
use Rattle.sqlite_catalog.specs.Change.{created}
use Rattle.sqlite.specs.State.{State, ExecutesInside}
use Rattle.wk_sqltables.specs.StoreSchema.{no_schema, page_table, revision_table, pagelinks_table, templatelinks_table, existlinks_table, categorylinks_table, job_table, site_table, redirect_table}

-- ---- the schemas in between

abbrev pub schema_1 : Schema
schema_1 = created no_schema page_table

abbrev pub schema_2 : Schema
schema_2 = created schema_1 revision_table

abbrev pub schema_3 : Schema
schema_3 = created schema_2 pagelinks_table

abbrev pub schema_4 : Schema
schema_4 = created schema_3 templatelinks_table

abbrev pub schema_5 : Schema
schema_5 = created schema_4 existlinks_table

abbrev pub schema_6 : Schema
schema_6 = created schema_5 categorylinks_table

abbrev pub schema_7 : Schema
schema_7 = created schema_6 job_table

abbrev pub schema_8 : Schema
schema_8 = created schema_7 site_table

abbrev pub schema_9 : Schema
schema_9 = created schema_8 redirect_table

-- within a transaction the store has the tables of this schema, and they are empty
pub record HasMade (schema : Schema) (s : State) : Type 0 where
  pub inside : IsTrue s.in_transaction
  pub schema_is : s.now.schema ≡ schema
  pub empty : AllByRecursion (λ table. s.now.trees table.tree ≡ []) schema.tables

-- ---- the statements

abbrev pub page_made : List ℕ
page_made = codes "CREATE TABLE page (page_id INTEGER PRIMARY KEY, page_namespace INTEGER NOT NULL, page_title TEXT NOT NULL, page_latest INTEGER NOT NULL, page_len INTEGER NOT NULL, UNIQUE (page_namespace, page_title)) STRICT"

abbrev pub revision_made : List ℕ
revision_made = codes "CREATE TABLE revision (rev_id INTEGER PRIMARY KEY, rev_page INTEGER NOT NULL, rev_parent_id INTEGER NOT NULL, rev_timestamp INTEGER NOT NULL, rev_len INTEGER NOT NULL, rev_gone INTEGER NOT NULL, rev_text TEXT NOT NULL) STRICT"

abbrev pub pagelinks_made : List ℕ
pagelinks_made = codes "CREATE TABLE pagelinks (pl_from INTEGER NOT NULL, pl_from_namespace INTEGER NOT NULL, pl_namespace INTEGER NOT NULL, pl_title TEXT NOT NULL, PRIMARY KEY (pl_from, pl_namespace, pl_title)) STRICT"

abbrev pub templatelinks_made : List ℕ
templatelinks_made = codes "CREATE TABLE templatelinks (tl_from INTEGER NOT NULL, tl_from_namespace INTEGER NOT NULL, tl_namespace INTEGER NOT NULL, tl_title TEXT NOT NULL, PRIMARY KEY (tl_from, tl_namespace, tl_title)) STRICT"

abbrev pub existlinks_made : List ℕ
existlinks_made = codes "CREATE TABLE existlinks (el_from INTEGER NOT NULL, el_from_namespace INTEGER NOT NULL, el_namespace INTEGER NOT NULL, el_title TEXT NOT NULL, PRIMARY KEY (el_from, el_namespace, el_title)) STRICT"

abbrev pub categorylinks_made : List ℕ
categorylinks_made = codes "CREATE TABLE categorylinks (cl_from INTEGER NOT NULL, cl_to TEXT NOT NULL, cl_sortkey TEXT NOT NULL, cl_sortkey_prefix TEXT NOT NULL, PRIMARY KEY (cl_from, cl_to)) STRICT"

abbrev pub job_made : List ℕ
job_made = codes "CREATE TABLE job (job_id INTEGER PRIMARY KEY, job_cmd TEXT NOT NULL, job_namespace INTEGER NOT NULL, job_title TEXT NOT NULL, job_params TEXT NOT NULL) STRICT"

abbrev pub site_made : List ℕ
site_made = codes "CREATE TABLE site (site_key TEXT NOT NULL PRIMARY KEY, site_value TEXT NOT NULL) STRICT"

abbrev pub redirect_made : List ℕ
redirect_made = codes "CREATE TABLE redirect (rd_from INTEGER PRIMARY KEY, rd_namespace INTEGER NOT NULL, rd_title TEXT NOT NULL) STRICT"

abbrev pub version_made : List ℕ
version_made = codes "INSERT INTO site (site_key, site_value) VALUES ('version', '2')"

-- a statement with this text was run within a transaction, or refused
abbrev pub Ran : {A : Type 0} → List ℕ → State → State → Result A Error → Type 0
Ran text old new (Ok a) = (count : ℕ) × ExecutesInside 0 text [] old new (Ok count)
Ran text old new (Err e) = ExecutesInside 0 text [] old new (Err e)

-- ---- a database without a table

-- it is open, nothing is to be committed, and its list of objects is empty
pub record IsBlank (s : State) : Type 0 where
  pub is_open : IsTrue s.is_open
  pub settled : s.now ≡ s.committed
  pub schema : s.now.schema ≡ no_schema
  pub objects : s.now.trees catalog_tree ≡ []

abbrev pub objects_text : List ℕ
objects_text = codes "SELECT sql FROM sqlite_schema WHERE sql IS NOT NULL"
