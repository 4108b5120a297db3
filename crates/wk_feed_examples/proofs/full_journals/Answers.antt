use Rattle.std.proofs.Common.{refl}
use Rattle.wk_feed_rules.specs.Computing.{computing}
use Rattle.wk_feed_examples.proofs.full_journals.Goals as goal

pub returns-clause-claim : goal.returns-clause-claim
unfolding computing
returns-clause-claim c = refl

pub returns-clause-last_claim : goal.returns-clause-last_claim
unfolding computing
returns-clause-last_claim c = refl

pub returns-clause-fan : goal.returns-clause-fan
unfolding computing
returns-clause-fan c = refl

pub returns-clause-last_fan : goal.returns-clause-last_fan
unfolding computing
returns-clause-last_fan c = refl

pub returns-clause-save : goal.returns-clause-save
unfolding computing
returns-clause-save c = refl

pub returns-clause-last_save : goal.returns-clause-last_save
unfolding computing
returns-clause-last_save c = refl
