use Rattle.wk_feed_laws.proofs.CutFeeds.{feed-back, feed-cut}
use Rattle.wk_feed_laws.proofs.feeds.cut_bytes_have_first_lines.Goals as goal

pub returns-clause-whole : goal.returns-clause-whole
returns-clause-whole c = feed-back

pub returns-clause-cut : goal.returns-clause-cut
returns-clause-cut c = feed-cut
