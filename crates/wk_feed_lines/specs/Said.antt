-- What a line says, as the rules have it.
use Rattle.std.specs.Prelude.{ℕ, List, Option, bytes_eq, find, option_and_then, option_map, string_bytes}
use Rattle.serde_json.specs.Data.{Data}
use Rattle.wk_feed_rules.specs.Lines.{TableRow, of_page, of_revision, of_pagelinks, of_templatelinks, of_existlinks, of_categorylinks, of_redirect, of_job, of_site, FeedLine as SaidLine, row, start, save, claim, done, back, fan}
use Rattle.wk_feed_rules.specs.Reading.{forms}
use Rattle.wk_feed_lines.specs.declared.line.FeedRow.{FeedRow}
use Rattle.wk_feed_lines.specs.declared.line.FeedRow.TheVariants.{Page, Revision, PageLink, TemplateLink, ExistLink, CategoryLink, Redirect, Job, Site}
use Rattle.wk_feed_lines.specs.declared.line.EventLine.{EventLine}
use Rattle.wk_feed_lines.specs.declared.line.EventLine.TheVariants.{Save, Claim, Done, Back, Fan}
use Rattle.wk_feed_lines.specs.declared.line.FeedLine.{FeedLine}
use Rattle.wk_feed_lines.specs.declared.line.FeedLine.TheVariants.{Row, Start, Event}

abbrev pub row_of : FeedRow → TableRow
row_of (Page told) = of_page told
row_of (Revision told) = of_revision told
row_of (PageLink told) = of_pagelinks told
row_of (TemplateLink told) = of_templatelinks told
row_of (ExistLink told) = of_existlinks told
row_of (CategoryLink told) = of_categorylinks told
row_of (Redirect told) = of_redirect told
row_of (Job told) = of_job told
row_of (Site version) = of_site version

abbrev pub event_line_of : EventLine → SaidLine
event_line_of (Save title text moment) = save (string_bytes title) (option_map (λ s. string_bytes s) text) moment
event_line_of Claim = claim
event_line_of (Done ticket) = done ticket
event_line_of (Back ticket) = back ticket
event_line_of Fan = fan

abbrev pub line_of : FeedLine → SaidLine
line_of (Row told) = row (row_of told)
line_of Start = start
line_of (Event event) = event_line_of event

-- what the values behind a first one say
abbrev pub said_by_name : List ℕ → List Data → Option SaidLine
said_by_name name values = option_and_then (λ form. form.1 values) (find (λ form. bytes_eq form.0 name) forms)
