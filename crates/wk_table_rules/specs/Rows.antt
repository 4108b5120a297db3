-- The tables of a store and the columns of their rows (MediaWiki's Manual:Database layout, with the columns that
-- this profile keeps; revisions' texts, deletions, existlinks and site are own). Where a table names a title by
-- two columns, the namespace and the key, they are one field here.
use Rattle.std.specs.Prelude.{ℕ, ℤ, pos, Bool, List, []}
use Rattle.wk_text_rules.specs.Titles.{PageTitle}

-- page (Manual:Page table)
pub record PageColumns : Type 0 where
  pub page_id : ℕ
  -- page_namespace and page_title
  pub page_title : PageTitle
  -- the number of the page's current revision, 0 where the page is missing
  pub page_latest : ℕ
  -- the bytes of the page's text, 0 where the page is missing
  pub page_len : ℕ

-- revision (Manual:Revision table)
pub record RevisionColumns : Type 0 where
  pub rev_id : ℕ
  pub rev_page : ℕ
  -- the page's current revision before this one, 0 where the page was missing
  pub rev_parent_id : ℕ
  -- seconds since 1970 (own)
  pub rev_timestamp : ℕ
  pub rev_len : ℕ
  -- the revision is a deletion (own)
  pub rev_gone : Bool
  -- the text itself (own: MediaWiki keeps it in a table of its own)
  pub rev_text : List ℕ

-- pagelinks, templatelinks and existlinks, whose columns begin with `pl_`, `tl_` and `el_` (Manual:Pagelinks table
-- and Manual:Templatelinks table, as they were before link targets had a table of their own; existlinks, the titles
-- whose existence the page tests, is own)
pub record LinkColumns : Type 0 where
  pub from : ℕ
  pub from_namespace : ℤ
  -- the columns `namespace` and `title`
  pub target : PageTitle

-- categorylinks (Manual:Categorylinks table)
pub record CategoryColumns : Type 0 where
  pub cl_from : ℕ
  -- the category's key; its namespace is always Category
  pub cl_to : List ℕ
  pub cl_sortkey : List ℕ
  pub cl_sortkey_prefix : List ℕ

-- redirect (Manual:Redirect table)
pub record RedirectColumns : Type 0 where
  pub rd_from : ℕ
  -- rd_namespace and rd_title
  pub rd_title : PageTitle

-- job (Manual:Job table)
pub record JobColumns : Type 0 where
  pub job_id : ℕ
  pub job_cmd : List ℕ
  -- job_namespace and job_title
  pub job_title : PageTitle
  pub job_params : List ℕ

-- All tables of a store. The table site has the one row `version`, with this number (own).
pub record StoreTables : Type 0 where
  pub pages : List PageColumns
  pub revisions : List RevisionColumns
  pub pagelinks : List LinkColumns
  pub templatelinks : List LinkColumns
  pub existlinks : List LinkColumns
  pub categorylinks : List CategoryColumns
  pub redirects : List RedirectColumns
  pub jobs : List JobColumns
  pub version : ℕ

-- the title with this key in the namespace Category
abbrev pub category_title : List ℕ → PageTitle
category_title key = record { ns = pos 14; key = key }

-- the version of a new store
abbrev pub newest_version : ℕ
newest_version = 2

-- a new store
abbrev pub no_tables : StoreTables
no_tables = record {
  pages = [];
  revisions = [];
  pagelinks = [];
  templatelinks = [];
  existlinks = [];
  categorylinks = [];
  redirects = [];
  jobs = [];
  version = newest_version;
}
