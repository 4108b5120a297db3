use Rattle.wk_feed_laws.proofs.Prefixes.{events-told, rows-told}
use Rattle.wk_feed_laws.proofs.feeds.first_lines_tell_first_events.Goals as goal

pub returns-clause-rows : goal.returns-clause-rows
returns-clause-rows c = rows-told

pub returns-clause-events : goal.returns-clause-events
returns-clause-events c = events-told
