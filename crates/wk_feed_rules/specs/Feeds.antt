-- The feed of a wiki: the tables at its start, row by row, and then its events (own).
use Rattle.std.specs.Prelude.{ℕ, List, [], ◌∷◌, ◌++◌, map}
use Rattle.std.specs.Fmt.{decimal}
use Rattle.wk_text_rules.specs.Titles.{shown}
use Rattle.wk_table_rules.specs.Rows.{StoreTables}
use Rattle.wk_wiki_rules.specs.States.{State}
use Rattle.wk_wiki_rules.specs.Events.{Event, Save, Claim, Done, Back, Fan}
use Rattle.wk_wiki_rules.specs.Tables.{tables_of}
use Rattle.wk_feed_rules.specs.Lines.{TableRow, of_page, of_revision, of_pagelinks, of_templatelinks, of_existlinks, of_categorylinks, of_redirect, of_job, of_site, FeedLine, row, start, save, claim, done, back, fan, line_text}

-- all rows, table by table
abbrev pub rows_of_tables : StoreTables → List TableRow
rows_of_tables tables =
    map of_page tables.pages
    ++ (map of_revision tables.revisions
    ++ (map of_pagelinks tables.pagelinks
    ++ (map of_templatelinks tables.templatelinks
    ++ (map of_existlinks tables.existlinks
    ++ (map of_categorylinks tables.categorylinks
    ++ (map of_redirect tables.redirects
    ++ (map of_job tables.jobs
    ++ of_site (decimal tables.version) ∷ [])))))))

abbrev pub event_line : Event → FeedLine
event_line (Save title text moment) = save (shown title) text moment
event_line Claim = claim
event_line (Done ticket) = done ticket
event_line (Back ticket) = back ticket
event_line Fan = fan

-- the rows of the tables of a start, and the line behind them
abbrev pub start_lines : State → List FeedLine
start_lines from = map row (rows_of_tables (tables_of from)) ++ start ∷ []

-- the lines of a feed, each without its newline
abbrev pub feed_of : State → List Event → List (List ℕ)
feed_of from events = map line_text (start_lines from ++ map event_line events)
