-- Which lines have numbers of 64 bits, as they are in a store and in a journal, and which starts and events a feed tells (own).
use Rattle.std.specs.Prelude.{◌≡◌, ℕ, ℤ, pos, negsuc, ◌+◌, ◌<◌, ◌^◌, ⊤, length}
use Rattle.std.specs.List.{AllByRecursion}
use Rattle.wk_page_rules.specs.History.{Revision}
use Rattle.wk_page_rules.specs.Verdict.{full_limits}
use Rattle.wk_table_rules.specs.Rows.{LinkColumns, StoreTables, newest_version}
use Rattle.wk_table_rules.specs.GoodStore.{IsGood}
use Rattle.wk_wiki_rules.specs.States.{State}
use Rattle.wk_wiki_rules.specs.Steps.{fan_pages}
use Rattle.wk_wiki_rules.specs.Calls.{CallsMake}
use Rattle.wk_wiki_rules.specs.Events.{Event, Save, Claim, Done, Back, Fan}
use Rattle.wk_wiki_rules.specs.Lives.{opened}
use Rattle.wk_wiki_rules.specs.Tables.{tables_of}
use Rattle.wk_feed_rules.specs.Lines.{TableRow, of_page, of_revision, of_pagelinks, of_templatelinks, of_existlinks, of_categorylinks, of_redirect, of_job, of_site, FeedLine, row, start, save, claim, done, back, fan}
use Rattle.wk_feed_rules.specs.Taking.{FeedRun}

-- ---- lines

abbrev pub NumberFits : ℕ → Type 0
NumberFits n = n < 2 ^ 64

-- above -2 ^ 63, and below 2 ^ 63
abbrev pub IntegerFits : ℤ → Type 0
IntegerFits (pos n) = n < 2 ^ 63
IntegerFits (negsuc n) = n + 1 < 2 ^ 63

abbrev pub LinkFits : LinkColumns → Type 0
LinkFits l = NumberFits l.from × IntegerFits l.from_namespace × IntegerFits l.target.ns

abbrev pub RowFits : TableRow → Type 0
RowFits (of_page p) = NumberFits p.page_id × IntegerFits p.page_title.ns × NumberFits p.page_latest × NumberFits p.page_len
RowFits (of_revision r) =
    NumberFits r.rev_id × NumberFits r.rev_page × NumberFits r.rev_parent_id × NumberFits r.rev_timestamp × NumberFits r.rev_len
RowFits (of_pagelinks l) = LinkFits l
RowFits (of_templatelinks l) = LinkFits l
RowFits (of_existlinks l) = LinkFits l
RowFits (of_categorylinks c) = NumberFits c.cl_from
RowFits (of_redirect r) = NumberFits r.rd_from × IntegerFits r.rd_title.ns
RowFits (of_job j) = NumberFits j.job_id × IntegerFits j.job_title.ns
RowFits (of_site version) = ⊤

abbrev pub LineFits : FeedLine → Type 0
LineFits (row told) = RowFits told
LineFits start = ⊤
LineFits (save title text moment) = NumberFits moment
LineFits claim = ⊤
LineFits (done ticket) = NumberFits ticket
LineFits (back ticket) = NumberFits ticket
LineFits fan = ⊤

-- ---- starts and events

-- The moments of the revisions have 64 bits, and so has their number.
pub record HasNumbers (state : State) : Type 0 where
  pub moments : AllByRecursion (λ (revision : Revision). NumberFits revision.moment) state.history.revisions
  pub few : NumberFits (length state.history.revisions)

-- The state is that of a wiki that was just opened over its own tables, which are good.
pub record CanStart (from : State) : Type 0 where
  pub good : IsGood (tables_of from)
  pub opened : opened (tables_of from) ≡ from
  pub numbers : HasNumbers from

-- a save's moment has 64 bits
abbrev pub MomentFits : Event → Type 0
MomentFits (Save title text moment) = NumberFits moment
MomentFits Claim = ⊤
MomentFits (Done ticket) = ⊤
MomentFits (Back ticket) = ⊤
MomentFits Fan = ⊤

-- ---- what lines tell

-- The wiki was opened over good tables of the newest version, and its events are such as calls with full limits make from there.
pub record WasMade (run : FeedRun) : Type 0 where
  pub tables : StoreTables
  pub good : IsGood tables
  pub newest : tables.version ≡ newest_version
  pub from : run.from ≡ opened tables
  pub calls : CallsMake fan_pages full_limits run.from run.events run.state
