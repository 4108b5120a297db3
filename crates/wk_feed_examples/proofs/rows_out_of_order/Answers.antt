use Rattle.std.proofs.Common.{refl}
use Rattle.wk_feed_rules.specs.Computing.{computing}
use Rattle.wk_feed_examples.proofs.rows_out_of_order.Goals as goal

pub returns-clause-earlier_table : goal.returns-clause-earlier_table
unfolding computing
returns-clause-earlier_table c = refl

pub returns-clause-falls : goal.returns-clause-falls
unfolding computing
returns-clause-falls c = refl

pub returns-clause-twice : goal.returns-clause-twice
unfolding computing
returns-clause-twice c = refl

pub returns-clause-links : goal.returns-clause-links
unfolding computing
returns-clause-links c = refl

pub returns-clause-second_site : goal.returns-clause-second_site
unfolding computing
returns-clause-second_site c = refl

pub returns-clause-behind_site : goal.returns-clause-behind_site
unfolding computing
returns-clause-behind_site c = refl
