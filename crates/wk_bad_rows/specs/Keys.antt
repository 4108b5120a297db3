-- The key of a row that breaks a rule of a good store (own). The rules say how a row is counted.
use Rattle.std.specs.Prelude.{ℕ, ◌-◌, Bool, false, ◌==◌, not, nat_le, List, length, take, slice_get, Option, Some, None, if◌then◌else◌}
use Rattle.wk_table_rules.specs.declared.BadStore.{BadStore}
use Rattle.wk_table_rules.specs.Rows.{PageColumns, RevisionColumns, LinkColumns, CategoryColumns, RedirectColumns, JobColumns, StoreTables}
use Rattle.wk_table_rules.specs.GoodStore.{has_good_parent}
use Rattle.wk_bad_rows.specs.declared.keys.LinkTable.{LinkTable}
use Rattle.wk_bad_rows.specs.declared.keys.LinkTable.TheVariants.{Pagelinks, Templatelinks, Existlinks}
use Rattle.wk_bad_rows.specs.declared.keys.RowKey.{RowKey}
use Rattle.wk_bad_rows.specs.declared.keys.RowKey.TheVariants.{Page, Revision, Link, Category, Redirect, Job, Version}

-- the row with this number, counted from 1
abbrev pub row_at : {Row : Type 0} → List Row → ℕ → Option Row
row_at rows row = if row == 0 then None else slice_get rows (row - 1)

-- ---- keys of rows

abbrev pub page_key : Option PageColumns → Option RowKey
page_key None = None
page_key (Some page) = Some (Page page.page_id page.page_title.ns page.page_title.key)

abbrev pub revision_key : Option RevisionColumns → Option RowKey
revision_key None = None
revision_key (Some revision) = Some (Revision revision.rev_id)

abbrev pub link_key : LinkTable → Option LinkColumns → Option RowKey
link_key table None = None
link_key table (Some link) = Some (Link table link.from link.target.ns link.target.key)

abbrev pub category_key : Option CategoryColumns → Option RowKey
category_key None = None
category_key (Some member) = Some (Category member.cl_from member.cl_to)

abbrev pub redirect_key : Option RedirectColumns → Option RowKey
redirect_key None = None
redirect_key (Some redirect) = Some (Redirect redirect.rd_from)

abbrev pub job_key : Option JobColumns → Option RowKey
job_key None = None
job_key (Some job) = Some (Job job.job_id)

-- ---- rows by their rule

-- a page's current revision behind one more revision, where this one was current before, 0 where there is none
abbrev pub current_with : ℕ → RevisionColumns → ℕ → ℕ
current_with current revision page = if revision.rev_page == page then (if revision.rev_gone then 0 else revision.rev_id) else current

-- fourth: the revision, where its parent isn't the one that was current before it, and else the page
abbrev pub is_bad_parent : List RevisionColumns → ℕ → Option RevisionColumns → Bool
is_bad_parent revisions row None = false
is_bad_parent revisions row (Some revision) = not (has_good_parent (take (row - 1) revisions) revision)

abbrev pub history_key : StoreTables → ℕ → Option RowKey
history_key tables row =
    let revision = row_at tables.revisions row in
    if is_bad_parent tables.revisions row revision then revision_key revision else page_key (row_at tables.pages row)

-- fifth: the tables are counted one after the other
abbrev pub links_key : StoreTables → ℕ → Option RowKey
links_key tables row =
    let links = length tables.pagelinks in
    let templates = length tables.templatelinks in
    let exists = length tables.existlinks in
    let members = length tables.categorylinks in
    if nat_le row links then link_key Pagelinks (row_at tables.pagelinks row)
    else if nat_le (row - links) templates then link_key Templatelinks (row_at tables.templatelinks (row - links))
    else if nat_le (row - links - templates) exists then link_key Existlinks (row_at tables.existlinks (row - links - templates))
    else if nat_le (row - links - templates - exists) members then category_key (row_at tables.categorylinks (row - links - templates - exists))
    else redirect_key (row_at tables.redirects (row - links - templates - exists - members))

-- seventh: a redirect that version 1 hasn't, and else the version
abbrev pub version_key : StoreTables → ℕ → Option RowKey
version_key tables row = if tables.version == 1 then redirect_key (row_at tables.redirects row) else Some (Version tables.version)

abbrev pub key_in : StoreTables → BadStore → Option RowKey
key_in tables bad =
    if bad.rule == 1 then page_key (row_at tables.pages bad.row)
    else if bad.rule == 2 then page_key (row_at tables.pages bad.row)
    else if bad.rule == 3 then revision_key (row_at tables.revisions bad.row)
    else if bad.rule == 4 then history_key tables bad.row
    else if bad.rule == 5 then links_key tables bad.row
    else if bad.rule == 6 then job_key (row_at tables.jobs bad.row)
    else if bad.rule == 7 then version_key tables bad.row
    else None
