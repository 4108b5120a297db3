use Rattle.std.proofs.Common.{refl}
use Rattle.wk_feed_rules.specs.Computing.{computing}
use Rattle.wk_feed_examples.proofs.a_start_with_rows.Goals as goal

pub returns-clause-lines : goal.returns-clause-lines
unfolding computing
returns-clause-lines c = refl

pub returns-clause-told : goal.returns-clause-told
unfolding computing
returns-clause-told c = refl

pub returns-clause-claim : goal.returns-clause-claim
unfolding computing
returns-clause-claim c = refl
