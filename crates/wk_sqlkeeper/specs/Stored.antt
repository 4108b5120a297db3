-- How the rows of a wiki stand in a database, whose numbers are from -2^63 to 2^63 - 1 (own). A row of a query has a
-- column for each field of the table's row, in the order of the fields.
use Rattle.std.specs.Prelude.{◌≡◌, ◌<◌, ◌^◌, pos, List}
use Rattle.sqlite_value.specs.declared.value.Value.{Value}
use Rattle.sqlite_value.specs.declared.value.Value.TheVariants.{Int, Text}
use Rattle.sqlite_value.specs.Order.{column}
use Rattle.wk_sqltables.specs.Entries.{stored_moment, stored_flag}
use Rattle.wk_table_rules.specs.Rows.{PageColumns, RevisionColumns, LinkColumns, CategoryColumns, RedirectColumns, JobColumns}

pub record IsPage (values : List Value) (page : PageColumns) : Type 0 where
  pub id : column values 0 ≡ Int (pos page.page_id)
  pub namespace : column values 1 ≡ Int page.page_title.ns
  pub title : column values 2 ≡ Text page.page_title.key
  pub latest : column values 3 ≡ Int (pos page.page_latest)
  pub len : column values 4 ≡ Int (pos page.page_len)

pub record IsRevision (values : List Value) (revision : RevisionColumns) : Type 0 where
  pub id : column values 0 ≡ Int (pos revision.rev_id)
  pub page : column values 1 ≡ Int (pos revision.rev_page)
  pub parent : column values 2 ≡ Int (pos revision.rev_parent_id)
  pub timestamp : column values 3 ≡ Int (stored_moment revision.rev_timestamp)
  pub fits : revision.rev_timestamp < 2 ^ 64
  pub len : column values 4 ≡ Int (pos revision.rev_len)
  pub gone : column values 5 ≡ Int (stored_flag revision.rev_gone)
  pub text : column values 6 ≡ Text revision.rev_text

pub record IsLink (values : List Value) (link : LinkColumns) : Type 0 where
  pub from : column values 0 ≡ Int (pos link.from)
  pub from_namespace : column values 1 ≡ Int link.from_namespace
  pub namespace : column values 2 ≡ Int link.target.ns
  pub title : column values 3 ≡ Text link.target.key

pub record IsMember (values : List Value) (member : CategoryColumns) : Type 0 where
  pub from : column values 0 ≡ Int (pos member.cl_from)
  pub to : column values 1 ≡ Text member.cl_to
  pub sortkey : column values 2 ≡ Text member.cl_sortkey
  pub prefix : column values 3 ≡ Text member.cl_sortkey_prefix

pub record IsRedirect (values : List Value) (redirect : RedirectColumns) : Type 0 where
  pub from : column values 0 ≡ Int (pos redirect.rd_from)
  pub namespace : column values 1 ≡ Int redirect.rd_title.ns
  pub title : column values 2 ≡ Text redirect.rd_title.key

pub record IsJob (values : List Value) (job : JobColumns) : Type 0 where
  pub id : column values 0 ≡ Int (pos job.job_id)
  pub cmd : column values 1 ≡ Text job.job_cmd
  pub namespace : column values 2 ≡ Int job.job_title.ns
  pub title : column values 3 ≡ Text job.job_title.key
  pub params : column values 4 ≡ Text job.job_params
