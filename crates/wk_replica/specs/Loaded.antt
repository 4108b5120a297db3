-- Wikis that are opened over the rows of a feed (own).
use Rattle.std.specs.Prelude.{◌≡◌, List, [], ◌∷◌, ◌++◌, Option, Some, None, IsSome, unwrap_or}
use Rattle.wk_text_rules.specs.Decimal.{decimal_number}
use Rattle.wk_page_rules.specs.Verdict.{full_limits}
use Rattle.wk_table_rules.specs.Rows.{StoreTables}
use Rattle.wk_table_rules.specs.GoodStore.{first_broken}
use Rattle.wk_wiki_rules.specs.Lives.{opened}
use Rattle.wk_core.specs.Loads.{HasOpened}
use Rattle.wk_core.specs.Seen.{WikiSeen}
use Rattle.wk_feed_rules.specs.Lines.{TableRow, of_page, of_revision, of_pagelinks, of_templatelinks, of_existlinks, of_categorylinks, of_redirect, of_job, of_site}
use Rattle.wk_feed_rules.specs.Taking.{begun, running}
use Rattle.wk_replica.specs.Followed.{run_of}

-- the tables with a row more
abbrev pub with_row_more : StoreTables → TableRow → StoreTables
with_row_more tables (of_page new) = record tables { pages = tables.pages ++ new ∷ [] }
with_row_more tables (of_revision new) = record tables { revisions = tables.revisions ++ new ∷ [] }
with_row_more tables (of_pagelinks new) = record tables { pagelinks = tables.pagelinks ++ new ∷ [] }
with_row_more tables (of_templatelinks new) = record tables { templatelinks = tables.templatelinks ++ new ∷ [] }
with_row_more tables (of_existlinks new) = record tables { existlinks = tables.existlinks ++ new ∷ [] }
with_row_more tables (of_categorylinks new) = record tables { categorylinks = tables.categorylinks ++ new ∷ [] }
with_row_more tables (of_redirect new) = record tables { redirects = tables.redirects ++ new ∷ [] }
with_row_more tables (of_job new) = record tables { jobs = tables.jobs ++ new ∷ [] }
with_row_more tables (of_site version) = record tables { version = unwrap_or (decimal_number version) 0 }

-- the wiki over these tables, where they are good
abbrev pub IsOver : {K : Type 0} → StoreTables → Option (WikiSeen K) → Type 0
IsOver tables None = IsSome (first_broken tables)
IsOver tables (Some wiki) = (first_broken tables ≡ None) × (wiki.state ≡ opened tables) × HasOpened wiki full_limits

-- the wiki over these rows, where they are all tables of a good store of the newest version
abbrev pub IsLoaded : {K : Type 0} → List TableRow → Option (WikiSeen K) → Type 0
IsLoaded rows None = begun rows ≡ None
IsLoaded rows (Some wiki) = (begun rows ≡ Some (running (run_of wiki))) × HasOpened wiki full_limits
