-- The tables of a store that hold a state, and the state that tables stand for (MediaWiki's Manual:Database layout).
use Rattle.std.specs.Prelude.{ℕ, List, [], length, map, flat_map, is_none, unwrap_or}
use Rattle.std.specs.List.{enumerate_from}
use Rattle.std.specs.Option.{option_to_list}
use Rattle.wk_text_rules.specs.Titles.{PageTitle}
use Rattle.wk_page_rules.specs.History.{History, Page, Revision, text_of_revision}
use Rattle.wk_page_rules.specs.PageRows.{PageRows}
use Rattle.wk_table_rules.specs.Rows.{PageColumns, RevisionColumns, LinkColumns, StoreTables, newest_version}
use Rattle.wk_table_rules.specs.Changes.{link_row, category_row, redirect_row}
use Rattle.wk_table_rules.specs.Stored.{history_of, stored_rows}
use Rattle.wk_wiki_rules.specs.Steps.{rows_of_jobs, jobs_of_tables}
use Rattle.wk_wiki_rules.specs.States.{State, title_at}

-- ---- the tables of a state

abbrev pub page_row : History → ℕ × Page → PageColumns
page_row h (number, page) = record {
  page_id = number;
  page_title = page.title;
  page_latest = page.current;
  page_len = length (unwrap_or (text_of_revision h page.current) []);
}

abbrev pub revision_row : ℕ × Revision → RevisionColumns
revision_row (number, revision) = record {
  rev_id = number;
  rev_page = revision.page;
  rev_parent_id = revision.parent;
  rev_timestamp = revision.moment;
  rev_len = length (unwrap_or revision.text []);
  rev_gone = is_none revision.text;
  rev_text = unwrap_or revision.text [];
}

-- the rows that each page has in one table, in the order of the pages
abbrev pub rows_of_pages : {Row : Type 0} → (ℕ → PageRows → List Row) → List PageRows → List Row
rows_of_pages rows_of stored = flat_map (λ page. rows_of page.0 page.1) (enumerate_from 1 stored)

-- the link rows of one page, of the titles that one list names
abbrev pub link_rows : History → (PageRows → List PageTitle) → ℕ → PageRows → List LinkColumns
link_rows h titles page rows = map (link_row page (title_at h page).ns) (titles rows)

-- The tables of a state. Which jobs are claimed, the order of the jobs after one was given back, and the number of the
-- next job aren't in them.
abbrev pub tables_of : State → StoreTables
tables_of state = record {
  pages = map (page_row state.history) (enumerate_from 1 state.history.pages);
  revisions = map revision_row (enumerate_from 1 state.history.revisions);
  pagelinks = rows_of_pages (link_rows state.history (λ rows. rows.links)) state.stored;
  templatelinks = rows_of_pages (link_rows state.history (λ rows. rows.templates)) state.stored;
  existlinks = rows_of_pages (link_rows state.history (λ rows. rows.exists)) state.stored;
  categorylinks = rows_of_pages (λ page rows. map (category_row page) rows.members) state.stored;
  redirects = rows_of_pages (λ page rows. map (redirect_row page) (option_to_list rows.redirect)) state.stored;
  jobs = rows_of_jobs (title_at state.history) state.jobs;
  version = newest_version;
}

-- ---- the state of tables

-- the state that good tables stand for, in which each job waits
abbrev pub state_of : StoreTables → State
state_of tables = record {
  history = history_of tables;
  stored = stored_rows tables;
  jobs = jobs_of_tables tables;
}
