use Rattle.wk_feed_laws.proofs.Fed.{feed-told}
use Rattle.wk_feed_laws.proofs.feeds.a_feed_tells_what_it_is_made_of.Goals as goal

pub returns : goal.returns
returns c = feed-told
