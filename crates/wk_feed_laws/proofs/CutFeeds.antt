-- The bytes of a feed.
use Rattle.std.proofs.Common.{◌≡◌, ℕ, List, ◌++◌, map, take}
use Rattle.std.specs.List.{AllByRecursion}
use Rattle.wk_page_rules.specs.Verdict.{full_limits}
use Rattle.wk_wiki_rules.specs.Steps.{fan_pages}
use Rattle.wk_wiki_rules.specs.States.{State}
use Rattle.wk_wiki_rules.specs.Events.{Event}
use Rattle.wk_wiki_rules.specs.Calls.{CallsMake}
use Rattle.wk_feed_rules.specs.Lines.{bytes_of_lines, lines_in}
use Rattle.wk_feed_rules.specs.Feeds.{event_line, feed_of, start_lines}
use Rattle.wk_feed_laws.specs.Fits.{CanStart, LineFits, MomentFits}
use Rattle.wk_feed_laws.proofs.Bytes.{IsLine, lines-back, lines-cut, texts-are}
use Rattle.wk_feed_laws.proofs.Fed.{events-fit, start-fits}
use Rattle.wk_feed_laws.proofs.Numbers.{all-append}

feed-lines : (from last : State) (events : List Event) → CanStart from → CallsMake fan_pages full_limits from events last → AllByRecursion MomentFits events → AllByRecursion IsLine (feed_of from events)
feed-lines from last events can calls fits =
    texts-are (start_lines from ++ map event_line events) (all-append LineFits (start_lines from) (map event_line events) (start-fits from can) (events-fit from last events can calls fits))

pub feed-back : (from last : State) (events : List Event) → CanStart from → CallsMake fan_pages full_limits from events last → AllByRecursion MomentFits events
    → lines_in (bytes_of_lines (feed_of from events)) ≡ feed_of from events
feed-back from last events can calls fits = lines-back (feed_of from events) (feed-lines from last events can calls fits)

pub feed-cut : (from last : State) (events : List Event) (bytes : ℕ) → CanStart from → CallsMake fan_pages full_limits from events last → AllByRecursion MomentFits events
    → (count : ℕ) × (lines_in (take bytes (bytes_of_lines (feed_of from events))) ≡ take count (feed_of from events))
feed-cut from last events bytes can calls fits = lines-cut (feed_of from events) bytes (feed-lines from last events can calls fits)
