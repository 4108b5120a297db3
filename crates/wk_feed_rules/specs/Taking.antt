-- What the lines of a feed tell, taken one after the other, and which line is bad (own).
use Rattle.std.specs.Prelude.{ℕ, pos, ◌+◌, Bool, true, false, ◌&&◌, ◌||◌, ◌==◌, nat_lt, List, [], ◌∷◌, ◌++◌, bytes_eq, filter_map, length, Option, Some, None, is_none, option_map, option_and_then, unwrap_or, if◌then◌else◌}
use Rattle.std.specs.List.{last_or}
use Rattle.wk_text_rules.specs.Decimal.{decimal_number}
use Rattle.wk_text_rules.specs.Titles.{PageTitle, shown}
use Rattle.wk_page_rules.specs.Verdict.{EditAsked, Verdict, refuse, no_change, accept, full_limits}
use Rattle.wk_table_rules.specs.Rows.{PageColumns, RevisionColumns, LinkColumns, CategoryColumns, RedirectColumns, JobColumns, StoreTables, category_title, newest_version}
use Rattle.wk_table_rules.specs.GoodStore.{first_broken, row_lt}
use Rattle.wk_wiki_rules.specs.States.{State, no_state}
use Rattle.wk_wiki_rules.specs.Events.{Event, Save, Claim, Done, Back, Fan, step}
use Rattle.wk_wiki_rules.specs.Lives.{opened}
use Rattle.wk_wiki_rules.specs.Room.{is_claim_refused, is_fan_refused}
use Rattle.wk_wiki_rules.specs.Verdicts.{verdict_in}
use Rattle.wk_feed_rules.specs.Lines.{TableRow, of_page, of_revision, of_pagelinks, of_templatelinks, of_existlinks, of_categorylinks, of_redirect, of_job, of_site, FeedLine, row, start, save, claim, done, back, fan}
use Rattle.wk_feed_rules.specs.Reading.{said}

-- ---- rows in their order

-- where a row stands: the number of its table, its first column, and the title that it has, the empty one where it has none
pub record RowPlace : Type 0 where
  pub table : ℕ
  pub number : ℕ
  pub title : PageTitle

abbrev pub no_title : PageTitle
no_title = record { ns = pos 0; key = [] }

abbrev pub place_of : TableRow → RowPlace
place_of (of_page p) = record { table = 0; number = p.page_id; title = p.page_title }
place_of (of_revision r) = record { table = 1; number = r.rev_id; title = no_title }
place_of (of_pagelinks l) = record { table = 2; number = l.from; title = l.target }
place_of (of_templatelinks l) = record { table = 3; number = l.from; title = l.target }
place_of (of_existlinks l) = record { table = 4; number = l.from; title = l.target }
place_of (of_categorylinks c) = record { table = 5; number = c.cl_from; title = category_title c.cl_to }
place_of (of_redirect r) = record { table = 6; number = r.rd_from; title = r.rd_title }
place_of (of_job j) = record { table = 7; number = j.job_id; title = j.job_title }
place_of (of_site version) = record { table = 8; number = 0; title = no_title }

-- by the table, in it by the first column, and then by the title
abbrev pub place_lt : RowPlace → RowPlace → Bool
place_lt a b = nat_lt a.table b.table || (a.table == b.table && row_lt a.number a.title b.number b.title)

-- the row stands behind the last of these
abbrev pub is_behind : List TableRow → TableRow → Bool
is_behind rows new = elim (last_or None rows) [ None ↦ true | Some last ↦ place_lt (place_of last) (place_of new) ]

-- ---- the tables of rows

abbrev pub page_in : TableRow → Option PageColumns
page_in (of_page p) = Some p
page_in _ = None

abbrev pub revision_in : TableRow → Option RevisionColumns
revision_in (of_revision r) = Some r
revision_in _ = None

abbrev pub pagelinks_in : TableRow → Option LinkColumns
pagelinks_in (of_pagelinks l) = Some l
pagelinks_in _ = None

abbrev pub templatelinks_in : TableRow → Option LinkColumns
templatelinks_in (of_templatelinks l) = Some l
templatelinks_in _ = None

abbrev pub existlinks_in : TableRow → Option LinkColumns
existlinks_in (of_existlinks l) = Some l
existlinks_in _ = None

abbrev pub category_in : TableRow → Option CategoryColumns
category_in (of_categorylinks c) = Some c
category_in _ = None

abbrev pub redirect_in : TableRow → Option RedirectColumns
redirect_in (of_redirect r) = Some r
redirect_in _ = None

abbrev pub job_in : TableRow → Option JobColumns
job_in (of_job j) = Some j
job_in _ = None

abbrev pub version_in : TableRow → Option (List ℕ)
version_in (of_site version) = Some version
version_in _ = None

-- the version that the rows tell, 0 where they tell no decimal number
abbrev pub version_of_rows : List TableRow → ℕ
version_of_rows rows = unwrap_or (option_and_then decimal_number (last_or None (filter_map version_in rows))) 0

abbrev pub tables_of_rows : List TableRow → StoreTables
tables_of_rows rows = record {
  pages = filter_map page_in rows;
  revisions = filter_map revision_in rows;
  pagelinks = filter_map pagelinks_in rows;
  templatelinks = filter_map templatelinks_in rows;
  existlinks = filter_map existlinks_in rows;
  categorylinks = filter_map category_in rows;
  redirects = filter_map redirect_in rows;
  jobs = filter_map job_in rows;
  version = version_of_rows rows;
}

-- ---- what lines have told so far

-- a wiki behind its start: the state at the start, the events since, and the state behind them
pub record FeedRun : Type 0 where
  pub from : State
  pub events : List Event
  pub state : State

pub data FeedSoFar : Type 0 where
  -- these rows, and no start yet
  loading : List TableRow → FeedSoFar
  running : FeedRun → FeedSoFar

-- Until the start is told the wiki is an empty one without events.
abbrev pub events_told : FeedSoFar → List Event
events_told (loading rows) = []
events_told (running run) = run.events

abbrev pub state_told : FeedSoFar → State
state_told (loading rows) = no_state
state_told (running run) = run.state

-- ---- a line more

-- a row goes behind the others, in the order of tables and rows
abbrev pub with_row : List TableRow → TableRow → Option FeedSoFar
with_row rows new = if is_behind rows new then Some (loading (rows ++ new ∷ [])) else None

-- The wiki is opened over the rows, which have to be all tables of a good store of the newest version.
abbrev pub begun : List TableRow → Option FeedSoFar
begun rows =
    let tables = tables_of_rows rows in
    if tables.version == newest_version && is_none (first_broken tables)
    then Some (running (record { from = opened tables; events = []; state = opened tables }))
    else None

-- ---- events

-- a plain save of this title and this text: no base, and whether or not the page is there
abbrev pub plain_save : List ℕ → Option (List ℕ) → EditAsked
plain_save title text = record { title = title; body = text; base = None; create_only = false; no_create = false }

abbrev pub is_same : Option (List ℕ) → Option (List ℕ) → Bool
is_same None None = true
is_same None (Some b) = false
is_same (Some a) None = false
is_same (Some a) (Some b) = bytes_eq a b

-- the save that was accepted, where its title is shown so and its text is kept so
abbrev pub that_very_save : List ℕ → Option (List ℕ) → ℕ → Verdict → Option Event
that_very_save title text moment (refuse refusal) = None
that_very_save title text moment (no_change named) = None
that_very_save title text moment (accept named kept) =
    if bytes_eq (shown named) title && is_same kept text then Some (Save named kept moment) else None

-- The event of a line, behind a journal of this length, where a call of a wiki with full limits can make it, but for what is possible by
-- the jobs that stand.
abbrev pub event_of_line : State → ℕ → FeedLine → Option Event
event_of_line state journal (row told) = None
event_of_line state journal start = None
event_of_line state journal (save title text moment) =
    that_very_save title text moment (verdict_in full_limits state journal (plain_save title text))
event_of_line state journal claim = if is_claim_refused full_limits state journal then None else Some Claim
event_of_line state journal (done ticket) = Some (Done ticket)
event_of_line state journal (back ticket) = Some (Back ticket)
event_of_line state journal fan = if is_fan_refused full_limits state journal then None else Some Fan

-- the run with this event, where the event is possible
abbrev pub with_event : FeedRun → Event → Option FeedSoFar
with_event run event =
    option_map
    (λ next. running (record { from = run.from; events = run.events ++ event ∷ []; state = next }))
    (step run.state (length run.events) event)

abbrev pub with_event_line : FeedRun → FeedLine → Option FeedSoFar
with_event_line run line = option_and_then (with_event run) (event_of_line run.state (length run.events) line)

-- ---- lines

-- what is told with this line more; nothing where the line is out of its place
abbrev pub line_taken : FeedSoFar → FeedLine → Option FeedSoFar
line_taken (loading rows) (row new) = with_row rows new
line_taken (loading rows) start = begun rows
line_taken (loading rows) (save title text moment) = None
line_taken (loading rows) claim = None
line_taken (loading rows) (done ticket) = None
line_taken (loading rows) (back ticket) = None
line_taken (loading rows) fan = None
line_taken (running run) line = with_event_line run line

-- What is told with a line of these bytes more; nothing where the line is bad.
abbrev pub taken : FeedSoFar → List ℕ → Option FeedSoFar
taken so_far bytes = option_and_then (line_taken so_far) (said bytes)

pub data Fed : Type 0 where
  -- no line is bad, and this is told
  told : FeedSoFar → Fed
  -- the number of the first bad line, from 1
  bad_line : ℕ → Fed

-- the lines one after the other, where the first of them has this number
abbrev pub fed_from : ℕ → FeedSoFar → List (List ℕ) → Fed
fed_from number so_far [] = told so_far
fed_from number so_far (line ∷ lines) = elim (taken so_far line) [
  | None ↦ bad_line number
  | Some next ↦ fed_from (number + 1) next lines
]

-- What lines tell, from the first line of a feed on.
abbrev pub fed : List (List ℕ) → Fed
fed lines = fed_from 1 (loading []) lines
