use Rattle.wk_feed_laws.proofs.Starts.{can-none, can-opened, can-reopened}
use Rattle.wk_feed_laws.proofs.feeds.starts_of_feeds.Goals as goal

pub returns-clause-none : goal.returns-clause-none
returns-clause-none c = can-none

pub returns-clause-opened : goal.returns-clause-opened
returns-clause-opened c = can-opened

pub returns-clause-reopened : goal.returns-clause-reopened
returns-clause-reopened c = can-reopened
