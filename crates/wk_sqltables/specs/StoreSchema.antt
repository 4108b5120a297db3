-- The schema of a store whose tables were made in their order: page, revision, pagelinks, templatelinks, existlinks,
-- categorylinks, job, site, redirect. A table, and the index of its key where it has one beside the row number, each has
-- the next tree.
use Rattle.sqlite.specs.Collation.TheVariants.{Binary}
use Rattle.std.specs.Prelude.{true, false, [], ◌∷◌, Some, None, codes, List, ℕ, ◌+◌, slice_index_or}
use Rattle.sqlite.specs.declared.types.Value.TheVariants.{Null}
use Rattle.sqlite.specs.Table.{Table}
use Rattle.sqlite.specs.Schema.{Schema}
use Rattle.sqlite_schema.specs.declared.schema.Column.{Column}
use Rattle.sqlite.specs.Kind.TheVariants.{Integer, Text}
use Rattle.sqlite_catalog.specs.Listing.{automatic}
use Rattle.sqlite_schema.specs.declared.schema.Index.{Index}
use Rattle.sqlite_value.specs.Keys.{plain}

abbrev pub number : List ℕ → Column
number name = record { name = name; kind = Integer; is_strict = true; not_null = true; default = Null; collation = Binary }

abbrev pub words : List ℕ → Column
words name = record { name = name; kind = Text; is_strict = true; not_null = true; default = Null; collation = Binary }

-- the column of an INTEGER PRIMARY KEY
abbrev pub id : List ℕ → Column
id name = record { name = name; kind = Integer; is_strict = true; not_null = false; default = Null; collation = Binary }

abbrev keyed : List ℕ → ℕ → List Column → Table
keyed name tree columns = record {
  name = name;
  tree = tree;
  columns = columns;
  key = Some 0;
  primary = 0 ∷ [];
  uniques = [];
  orders = [];
  checks = [];
  references = [];
  computed = [];
  stamps = record { places = []; terms = []; formats = [] };
  is_counted = false;
}

abbrev pub linked : List ℕ → ℕ → List Column → List ℕ → Table
linked name tree columns places = record {
  name = name;
  tree = tree;
  columns = columns;
  key = None;
  primary = places;
  uniques = places ∷ [];
  orders = plain ∷ [];
  checks = [];
  references = [];
  computed = [];
  stamps = record { places = []; terms = []; formats = [] };
  is_counted = false;
}

abbrev pub page_table : Table
page_table = record (keyed (codes "page") 0 (id (codes "page_id") ∷ number (codes "page_namespace") ∷ words (codes "page_title") ∷ number (codes "page_latest") ∷ number (codes "page_len") ∷ []))
    { uniques = (2 ∷ 3 ∷ []) ∷ []; orders = plain ∷ [] }

abbrev pub revision_table : Table
revision_table = keyed (codes "revision") 2 (id (codes "rev_id") ∷ number (codes "rev_page") ∷ number (codes "rev_parent_id") ∷ number (codes "rev_timestamp") ∷ number (codes "rev_len") ∷ number (codes "rev_gone") ∷ words (codes "rev_text") ∷ [])

abbrev pub pagelinks_table : Table
pagelinks_table = linked (codes "pagelinks") 3 (number (codes "pl_from") ∷ number (codes "pl_from_namespace") ∷ number (codes "pl_namespace") ∷ words (codes "pl_title") ∷ []) (1 ∷ 3 ∷ 4 ∷ [])

abbrev pub templatelinks_table : Table
templatelinks_table = linked (codes "templatelinks") 5 (number (codes "tl_from") ∷ number (codes "tl_from_namespace") ∷ number (codes "tl_namespace") ∷ words (codes "tl_title") ∷ []) (1 ∷ 3 ∷ 4 ∷ [])

abbrev pub existlinks_table : Table
existlinks_table = linked (codes "existlinks") 7 (number (codes "el_from") ∷ number (codes "el_from_namespace") ∷ number (codes "el_namespace") ∷ words (codes "el_title") ∷ []) (1 ∷ 3 ∷ 4 ∷ [])

abbrev pub categorylinks_table : Table
categorylinks_table = linked (codes "categorylinks") 9 (number (codes "cl_from") ∷ words (codes "cl_to") ∷ words (codes "cl_sortkey") ∷ words (codes "cl_sortkey_prefix") ∷ []) (1 ∷ 2 ∷ [])

abbrev pub job_table : Table
job_table = keyed (codes "job") 11 (id (codes "job_id") ∷ words (codes "job_cmd") ∷ number (codes "job_namespace") ∷ words (codes "job_title") ∷ words (codes "job_params") ∷ [])

abbrev pub site_table : Table
site_table = linked (codes "site") 12 (words (codes "site_key") ∷ words (codes "site_value") ∷ []) (1 ∷ [])

abbrev pub redirect_table : Table
redirect_table = keyed (codes "redirect") 14 (id (codes "rd_from") ∷ number (codes "rd_namespace") ∷ words (codes "rd_title") ∷ [])

abbrev pub no_schema : Schema
no_schema = record { tables = []; indexes = []; views = [] }

abbrev pub index_of : Table → Index
index_of table = automatic table 0 (slice_index_or table.uniques 0 []) (table.tree + 1)

abbrev pub store_schema : Schema
store_schema = record {
  tables = page_table ∷ revision_table ∷ pagelinks_table ∷ templatelinks_table ∷ existlinks_table ∷ categorylinks_table ∷ job_table ∷ site_table ∷ redirect_table ∷ [];
  indexes = index_of page_table ∷ index_of pagelinks_table ∷ index_of templatelinks_table ∷ index_of existlinks_table ∷ index_of categorylinks_table ∷ index_of site_table ∷ [];
  views = [];
}
