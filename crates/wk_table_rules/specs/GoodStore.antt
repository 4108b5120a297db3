-- When the tables of a store are good (own; the columns are those of MediaWiki's Manual:Database layout). There are
-- seven rules. Of tables that break one, the first rule that is broken is told, and the least row that breaks it.
use Rattle.std.specs.Prelude.{◌≡◌, ℕ, ◌+◌, ◌-◌, ◌^◌, Bool, false, ◌&&◌, ◌||◌, ◌==◌, not, nat_lt, nat_le, List, [], ◌∷◌, ◌++◌, length, filter, sum_by, bytes_eq, Option, Some, None, option_map, if◌then◌else◌}
use Rattle.std.specs.List.{last_or, list_all, list_any}
use Rattle.std.specs.Ordering.{int_eq, is_lt, nat_cmp, ordering_then}
use Rattle.wk_text_rules.specs.Titles.{PageTitle, is_normal, is_page_title, title_cmp, title_eq}
use Rattle.wk_page_rules.specs.Verdict.{max_pages, max_text, max_texts}
use Rattle.wk_table_rules.specs.declared.BadStore.{BadStore}
use Rattle.wk_table_rules.specs.Rows.{category_title, PageColumns, RevisionColumns, LinkColumns, CategoryColumns, RedirectColumns, JobColumns, StoreTables}
use Rattle.wk_table_rules.specs.Changes.{has_page, namespace_of}
use Rattle.wk_table_rules.specs.JobTable.{refresh_cmd, fan_cmd, fan_params}

-- ---- rows

-- The number of the first row that isn't good. A row is judged with the rows before it, in order.
abbrev pub first_bad_after : {Row : Type 0} → (List Row → Row → Bool) → List Row → List Row → Option ℕ
first_bad_after is_good before [] = None
first_bad_after is_good before (row ∷ rows) =
    let later = first_bad_after is_good (before ++ row ∷ []) rows in
    if is_good before row then later else Some (length before + 1)

abbrev pub first_bad : {Row : Type 0} → (List Row → Row → Bool) → List Row → Option ℕ
first_bad is_good rows = first_bad_after is_good [] rows

-- the lesser of two numbers of rows, where both are given
abbrev pub lesser : Option ℕ → Option ℕ → Option ℕ
lesser None other = other
lesser (Some row) None = Some row
lesser (Some row) (Some other) = if nat_lt other row then Some other else Some row

-- the number of a table's rows, and its first bad row
abbrev pub judged_table : {Row : Type 0} → (List Row → Row → Bool) → List Row → ℕ × Option ℕ
judged_table is_good rows = (length rows, first_bad is_good rows)

-- the first bad row of several tables, whose rows are counted one after the other
abbrev pub first_in_tables : List (ℕ × Option ℕ) → Option ℕ
first_in_tables [] = None
first_in_tables ((rows, Some row) ∷ tables) = Some row
first_in_tables ((rows, None) ∷ tables) = option_map (λ row. rows + row) (first_in_tables tables)

-- ---- first: page ids are 1, 2, 3 and so on, at most 1,000,000

abbrev pub has_good_id : List PageColumns → PageColumns → Bool
has_good_id before page = page.page_id == length before + 1 && nat_le page.page_id max_pages

-- ---- second: titles are normal, not negative, and distinct; of two pages with one title the later is bad

abbrev pub has_good_title : List PageColumns → PageColumns → Bool
has_good_title before page =
    is_page_title page.page_title && not (list_any (λ earlier. title_eq earlier.page_title page.page_title) before)

-- ---- third: revisions are numbered 1, 2, 3 and so on; each is of a page; a deletion has no text; rev_len is the
-- ---- text's length and at most the greatest; all texts together are within the limit

-- bytes of the texts of all revisions
abbrev pub texts_len : List RevisionColumns → ℕ
texts_len revisions = sum_by (λ revision. length revision.rev_text) revisions

abbrev pub is_good_revision : StoreTables → List RevisionColumns → RevisionColumns → Bool
is_good_revision tables before revision =
    revision.rev_id == length before + 1
    && has_page tables revision.rev_page
    && (not revision.rev_gone || length revision.rev_text == 0)
    && (revision.rev_len == length revision.rev_text && nat_le revision.rev_len max_text)
    && nat_le (texts_len (before ++ revision ∷ [])) max_texts

-- ---- fourth: rev_parent_id is the revision that was current before; page_latest is the page's last revision, 0 where
-- ---- that is a deletion; page_len is its length; each page has a revision

-- the page's last revision
abbrev pub last_revision : List RevisionColumns → ℕ → Option RevisionColumns
last_revision revisions page = last_or None (filter (λ revision. revision.rev_page == page) revisions)

-- the number of the page's current revision, 0 where it has none or its last is a deletion
abbrev pub current_of : List RevisionColumns → ℕ → ℕ
current_of revisions page = elim (last_revision revisions page) [
  | None ↦ 0
  | Some last ↦ if last.rev_gone then 0 else last.rev_id
]

abbrev pub has_good_parent : List RevisionColumns → RevisionColumns → Bool
has_good_parent before revision = revision.rev_parent_id == current_of before revision.rev_page

abbrev pub has_good_latest : StoreTables → List PageColumns → PageColumns → Bool
has_good_latest tables before page = elim (last_revision tables.revisions page.page_id) [
  | None ↦ false
  | Some last ↦ page.page_latest == current_of tables.revisions page.page_id && page.page_len == last.rev_len
]

-- ---- fifth: link rows come from pages, with the from column's namespace right where there is one; targets are
-- ---- normal and not negative; the rows are in order and none stands twice; a category stands once for each page;
-- ---- a page has at most one redirect row

-- the first row stands before the second: by the page, and then by the title
abbrev pub row_lt : ℕ → PageTitle → ℕ → PageTitle → Bool
row_lt page title page' title' = is_lt (ordering_then (nat_cmp page page') (title_cmp title title'))

abbrev pub is_good_link : StoreTables → List LinkColumns → LinkColumns → Bool
is_good_link tables before row =
    has_page tables row.from
    && int_eq row.from_namespace (namespace_of tables row.from)
    && is_page_title row.target
    && list_all (λ earlier. row_lt earlier.from earlier.target row.from row.target) before

abbrev pub is_good_category : StoreTables → List CategoryColumns → CategoryColumns → Bool
is_good_category tables before row =
    has_page tables row.cl_from
    && is_normal (category_title row.cl_to)
    && list_all (λ earlier. row_lt earlier.cl_from (category_title earlier.cl_to) row.cl_from (category_title row.cl_to)) before

abbrev pub is_good_redirect : StoreTables → List RedirectColumns → RedirectColumns → Bool
is_good_redirect tables before row =
    has_page tables row.rd_from && is_page_title row.rd_title && list_all (λ earlier. nat_lt earlier.rd_from row.rd_from) before

-- ---- sixth: job numbers are at least 1, below a bound, and rise; each job is a refresh of a page, each page once,
-- ---- with empty params, or a fan of a normal title, each title once, with a cursor of at most 1,000,000

-- With version 1 there is room above it, below 2^63, for a refresh job of each page, which the step to version 2 adds.
abbrev pub job_bound : ℕ → ℕ
job_bound version = if version == 1 then 2 ^ 63 - max_pages else 2 ^ 63

-- the params of a refresh job are empty
abbrev pub is_refresh_params : List ℕ → Bool
is_refresh_params params = length params == 0

-- those of a fan job have a cursor of at most 1,000,000
abbrev pub is_fan_params : List ℕ → Bool
is_fan_params text = elim (fan_params text) [ None ↦ false | Some params ↦ nat_le params.cursor max_pages ]

-- a job's params are of its kind
abbrev pub has_good_params : JobColumns → Bool
has_good_params job =
    if bytes_eq job.job_cmd refresh_cmd then is_refresh_params job.job_params else is_fan_params job.job_params

-- a row before has this cmd and title
abbrev pub stands_already : List JobColumns → List ℕ → PageTitle → Bool
stands_already before cmd title = list_any (λ row. bytes_eq row.job_cmd cmd && title_eq row.job_title title) before

abbrev pub is_good_number : ℕ → List JobColumns → JobColumns → Bool
is_good_number version before job =
    nat_le 1 job.job_id && nat_lt job.job_id (job_bound version) && list_all (λ earlier. nat_lt earlier.job_id job.job_id) before

abbrev pub is_good_refresh : StoreTables → List JobColumns → JobColumns → Bool
is_good_refresh tables before job =
    list_any (λ page. title_eq page.page_title job.job_title) tables.pages
    && not (stands_already before refresh_cmd job.job_title)
    && is_refresh_params job.job_params

abbrev pub is_good_fan : List JobColumns → JobColumns → Bool
is_good_fan before job =
    bytes_eq job.job_cmd fan_cmd
    && is_normal job.job_title
    && not (stands_already before fan_cmd job.job_title)
    && is_fan_params job.job_params

abbrev pub is_good_job : StoreTables → List JobColumns → JobColumns → Bool
is_good_job tables before job =
    is_good_number tables.version before job
    && (if bytes_eq job.job_cmd refresh_cmd then is_good_refresh tables before job else is_good_fan before job)

-- ---- seventh: the version is 1 or 2, and with version 1 there is no redirect row; the version's row is counted on
-- ---- behind the redirect rows

abbrev pub bad_version : StoreTables → Option ℕ
bad_version tables =
    if tables.version == 1 then (if length tables.redirects == 0 then None else Some 1)
    else if tables.version == 2 then None
    else Some (length tables.redirects + 1)

-- ---- the first rule that is broken, and its least row

-- the least row of either table
abbrev pub bad_history : StoreTables → Option ℕ
bad_history tables = lesser (first_bad has_good_parent tables.revisions) (first_bad (has_good_latest tables) tables.pages)

-- the link tables and the redirect table, in this order
abbrev pub judged_links : StoreTables → List (ℕ × Option ℕ)
judged_links tables =
    judged_table (is_good_link tables) tables.pagelinks
    ∷ judged_table (is_good_link tables) tables.templatelinks
    ∷ judged_table (is_good_link tables) tables.existlinks
    ∷ judged_table (is_good_category tables) tables.categorylinks
    ∷ judged_table (is_good_redirect tables) tables.redirects
    ∷ []

-- the least bad row of each rule, from the first rule to the seventh
abbrev pub judged_rules : StoreTables → List (Option ℕ)
judged_rules tables =
    first_bad has_good_id tables.pages
    ∷ first_bad has_good_title tables.pages
    ∷ first_bad (is_good_revision tables) tables.revisions
    ∷ bad_history tables
    ∷ first_in_tables (judged_links tables)
    ∷ first_bad (is_good_job tables) tables.jobs
    ∷ bad_version tables
    ∷ []

-- the first rule with a bad row, where the first of these rules has this number
abbrev pub first_rule : ℕ → List (Option ℕ) → Option BadStore
first_rule rule [] = None
first_rule rule (Some row ∷ rules) = Some (record { rule = rule; row = row })
first_rule rule (None ∷ rules) = first_rule (rule + 1) rules

unfoldable pub first_broken : StoreTables → Option BadStore
first_broken tables = first_rule 1 (judged_rules tables)

-- no rule is broken
abbrev pub IsGood : StoreTables → Type 0
IsGood tables = first_broken tables ≡ None
