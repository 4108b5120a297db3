use Rattle.std.proofs.Common.{[]}
use Rattle.wk_feed_rules.specs.Taking.{loading}
use Rattle.wk_feed_laws.proofs.Made.{fed-made}
use Rattle.wk_feed_laws.proofs.feeds.what_is_told_can_be_made.Goals as goal

pub returns : goal.returns
returns c = λ lines run is. fed-made lines 1 (loading []) run tt is
