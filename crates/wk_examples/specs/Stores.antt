-- The stores of the worked examples on tables: a good one, and others that break a rule in one place.
use Rattle.std.specs.Prelude.{ℕ, pos, negsuc, true, false, List, [], ◌∷◌, codes, length, Option, Some}
use Rattle.wk_text_rules.specs.Titles.{PageTitle}
use Rattle.wk_table_rules.specs.declared.BadStore.{BadStore}
use Rattle.wk_page_rules.specs.declared.Reach.TheVariants.{Text}
use Rattle.wk_table_rules.specs.Rows.{category_title, PageColumns, RevisionColumns, LinkColumns, CategoryColumns, RedirectColumns, JobColumns, StoreTables}
use Rattle.wk_page_rules.specs.PageRows.{Member}
use Rattle.wk_table_rules.specs.JobTable.{fan_row, refresh_row}
use Rattle.wk_table_rules.specs.GoodStore.{first_broken}

-- ---- short forms of rows

abbrev pub main : List ℕ → PageTitle
main key = record { ns = pos 0; key = key }

abbrev pub template : List ℕ → PageTitle
template key = record { ns = pos 10; key = key }

abbrev pub special : List ℕ → PageTitle
special key = record { ns = negsuc 0; key = key }

-- the number, the title, the current revision and the length
abbrev pub page : ℕ → PageTitle → ℕ → ℕ → PageColumns
page id title latest len = record { page_id = id; page_title = title; page_latest = latest; page_len = len }

-- the number, the page, the parent and the text
abbrev pub revision : ℕ → ℕ → ℕ → List ℕ → RevisionColumns
revision id page parent text = record {
  rev_id = id;
  rev_page = page;
  rev_parent_id = parent;
  rev_timestamp = 7;
  rev_len = length text;
  rev_gone = false;
  rev_text = text;
}

abbrev pub deletion : ℕ → ℕ → ℕ → RevisionColumns
deletion id page parent = record {
  rev_id = id;
  rev_page = page;
  rev_parent_id = parent;
  rev_timestamp = 8;
  rev_len = 0;
  rev_gone = true;
  rev_text = [];
}

-- a link row of a page in main
abbrev pub link : ℕ → PageTitle → LinkColumns
link from title = record { from = from; from_namespace = pos 0; target = title }

abbrev pub category : ℕ → List ℕ → CategoryColumns
category from key = record { cl_from = from; cl_to = key; cl_sortkey = codes "A"; cl_sortkey_prefix = [] }

-- what the row of that form says of its page
abbrev pub member : List ℕ → Member
member key = record { category = category_title key; sortkey = codes "A"; prefix = [] }

abbrev pub redirect : ℕ → PageTitle → RedirectColumns
redirect from title = record { rd_from = from; rd_title = title }

abbrev pub fan_job : ℕ → PageTitle → List ℕ → JobColumns
fan_job id title params = record { job_id = id; job_cmd = codes "fan"; job_title = title; job_params = params }

-- ---- stores

abbrev pub title_a : PageTitle
title_a = main (codes "A")

abbrev pub title_b : PageTitle
title_b = main (codes "B")

abbrev pub title_t : PageTitle
title_t = template (codes "T")

-- A is there, and B is a page without text
abbrev pub page_a : PageColumns
page_a = page 1 title_a 1 5

abbrev pub page_b : PageColumns
page_b = page 2 title_b 0 0

abbrev pub revision_1 : RevisionColumns
revision_1 = revision 1 1 0 (codes "{{T}}")

abbrev pub revision_2 : RevisionColumns
revision_2 = revision 2 2 0 (codes "y")

abbrev pub deletion_3 : RevisionColumns
deletion_3 = deletion 3 2 2

-- a store that breaks no rule with version 1 or 2
abbrev pub good : ℕ → StoreTables
good version = record {
  pages = page_a ∷ page_b ∷ [];
  revisions = revision_1 ∷ revision_2 ∷ deletion_3 ∷ [];
  pagelinks = link 1 title_b ∷ link 1 title_t ∷ [];
  templatelinks = link 1 title_t ∷ [];
  existlinks = link 1 title_b ∷ link 2 title_a ∷ [];
  categorylinks = category 1 (codes "X") ∷ category 1 (codes "Y") ∷ [];
  redirects = [];
  jobs = refresh_row 1 title_a ∷ fan_row 4 title_t (record { reach = Text; cursor = 1 }) ∷ [];
  version = version;
}

-- the good store with other rows in one table

abbrev pub with_pages : List PageColumns → ℕ → StoreTables
with_pages rows version = record (good version) { pages = rows }

abbrev pub with_revisions : List RevisionColumns → ℕ → StoreTables
with_revisions rows version = record (good version) { revisions = rows }

abbrev pub with_history : List PageColumns → List RevisionColumns → ℕ → StoreTables
with_history pages revisions version = record (good version) { pages = pages; revisions = revisions }

abbrev pub with_pagelinks : List LinkColumns → ℕ → StoreTables
with_pagelinks rows version = record (good version) { pagelinks = rows }

abbrev pub with_templatelinks : List LinkColumns → ℕ → StoreTables
with_templatelinks rows version = record (good version) { templatelinks = rows }

abbrev pub with_existlinks : List LinkColumns → ℕ → StoreTables
with_existlinks rows version = record (good version) { existlinks = rows }

abbrev pub with_categorylinks : List CategoryColumns → ℕ → StoreTables
with_categorylinks rows version = record (good version) { categorylinks = rows }

abbrev pub with_redirects : List RedirectColumns → ℕ → StoreTables
with_redirects rows version = record (good version) { redirects = rows }

abbrev pub with_jobs : List JobColumns → ℕ → StoreTables
with_jobs rows version = record (good version) { jobs = rows }

-- this rule is the first that is broken, and this is its least row
abbrev pub broken : ℕ → ℕ → Option BadStore
broken rule row = Some (record { rule = rule; row = row })

-- what is told of a store with version 1 and with version 2
abbrev pub told : (ℕ → StoreTables) → List (Option BadStore)
told store = first_broken (store 1) ∷ first_broken (store 2) ∷ []

-- the same is told with both versions
abbrev pub both : ℕ → ℕ → List (Option BadStore)
both rule row = broken rule row ∷ broken rule row ∷ []
